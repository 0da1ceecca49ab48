pub mod Built
pub mod Solution
