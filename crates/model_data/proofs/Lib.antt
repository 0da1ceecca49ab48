pub mod Examples
pub mod Items
pub mod Lawful
