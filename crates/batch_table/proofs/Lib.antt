pub mod Finding
pub mod Keeping
pub mod Lasts
pub mod Losing
