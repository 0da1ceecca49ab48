pub mod InputParts
pub mod Lengths
pub mod OneBadLine
pub mod OneFinding
pub mod Told
