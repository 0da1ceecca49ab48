pub mod Draft
pub mod Meaning
pub mod Outcome
pub mod Terms
