pub mod OnPath
pub mod Turns
