mod Beginning
pub mod Holding
mod FileEnds
mod Planning
pub mod Reading
mod ReadingLaws
mod Standing
mod Steps
mod Tearing
