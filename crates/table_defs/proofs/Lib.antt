mod Examples
pub mod Keyed
pub mod Lists
pub mod Names
pub mod Outcomes
pub mod Owned
pub mod Records
pub mod Rising
pub mod Rows
