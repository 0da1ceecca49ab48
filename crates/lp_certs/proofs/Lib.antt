pub mod Indexed
pub mod Read
pub mod Stops
