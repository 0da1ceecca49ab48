pub mod Filling
pub mod ImageSteps
pub mod MemoryCalls
pub mod Moments
pub mod Overwriting
pub mod Restarting
pub mod Spoiling
pub mod Undoing
