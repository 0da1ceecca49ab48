pub mod Keyed
pub mod Lists
pub mod Names
pub mod Outcomes
pub mod Owned
pub mod Table
pub mod Taken
