pub mod Kept
pub mod Lawful
pub mod Names
pub mod Params
pub mod Size
pub mod Words
