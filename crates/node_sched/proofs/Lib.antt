pub mod Counts
pub mod Fresh
pub mod Goes
pub mod Rule
pub mod Slots
pub mod Steps
pub mod Tests
pub mod Turns
