pub mod Turns
pub mod Writable
