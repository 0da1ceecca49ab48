pub mod Equalities
pub mod KeptForms
pub mod KeptPath
pub mod Weights
