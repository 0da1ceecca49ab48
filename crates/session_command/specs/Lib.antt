pub mod Held
pub mod OnDisk
