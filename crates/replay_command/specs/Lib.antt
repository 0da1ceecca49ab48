pub mod Answering
pub mod Believed
pub mod Numbering
pub mod Replayed
pub mod Script
