pub mod BlockFrames
pub mod BufferParts
pub mod Frames
pub mod Giving
pub mod LineFeeds
pub mod ListedCalls
pub mod LongFrames
pub mod Passing
