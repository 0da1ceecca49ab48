mod Calls
pub mod Runs
