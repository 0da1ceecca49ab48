pub mod Comes
pub mod Scans
