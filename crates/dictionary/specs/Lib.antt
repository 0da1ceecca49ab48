pub mod Cells
pub mod Dense
pub mod Dictionary
pub mod ExactPath
pub mod Rule
pub mod Solutions
