pub mod Solve
pub mod Turns
