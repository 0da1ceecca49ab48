pub mod Digits
pub mod FaultText
pub mod Grammar
pub mod Number
pub mod Reading
pub mod Writing
