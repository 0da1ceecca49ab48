pub mod Ends
pub mod Solved
