pub mod Columns
pub mod Cuts
pub mod Outcome
pub mod Shapes
pub mod Ways
