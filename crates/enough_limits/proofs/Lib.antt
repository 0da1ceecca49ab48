pub mod Choose
pub mod Leaves
pub mod Limited
pub mod ByVariable
pub mod Products
