pub mod Bases
pub mod Choices
