pub mod Decimal
pub mod Id
pub mod Memory
pub mod Outside
pub mod OwnerName
pub mod Prefix
pub mod RefusalText
