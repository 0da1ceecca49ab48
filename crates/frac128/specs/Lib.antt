pub mod Checked
pub mod Fits
pub mod Fraction
pub mod Lowest
pub mod Numbers
pub mod Order
pub mod Parts
pub mod Text
