pub mod Lazy
pub mod Log
