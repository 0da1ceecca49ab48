pub mod Open
pub mod Told
pub mod Worked
