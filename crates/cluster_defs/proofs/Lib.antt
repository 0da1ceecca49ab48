pub mod Scenes
mod WorkedBatches
mod WorkedJobs
mod WorkedLimits
