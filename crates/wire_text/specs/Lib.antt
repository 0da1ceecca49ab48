pub mod Answers
pub mod Commands
pub mod Forms
pub mod Kinds
pub mod Lawful
pub mod Line
pub mod Reading
pub mod Telling
