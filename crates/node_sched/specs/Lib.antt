pub mod Asked
pub mod Counts
pub mod Runs
pub mod Schedule
pub mod Slots
pub mod Turns
