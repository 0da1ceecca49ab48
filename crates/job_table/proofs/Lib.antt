pub mod Found
pub mod Given
pub mod Order
pub mod Rows
