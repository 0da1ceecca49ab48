pub mod Decimals
pub mod Ids
pub mod Outside
pub mod OwnerNames
pub mod Prefixes
pub mod Walks
