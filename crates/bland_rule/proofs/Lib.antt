pub mod Nexts
pub mod Passes
