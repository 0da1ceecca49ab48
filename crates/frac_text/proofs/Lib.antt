pub mod Kept
pub mod Outcomes
pub mod RoundTrip
pub mod Runs
pub mod Scanning
pub mod Sizes
pub mod Spelled
