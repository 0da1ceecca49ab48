pub mod Blocks
pub mod FirstByte
pub mod Gaps
pub mod ItemsAhead
pub mod ReadSoFar
pub mod RunsAhead
pub mod Simple
