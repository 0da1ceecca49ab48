pub mod Answering
pub mod Events
pub mod Hubs
pub mod Stepping
pub mod Steps
pub mod Views
pub mod World
