pub mod Bounds
pub mod OwnRoom
pub mod Places
pub mod Seated
pub mod Sound
pub mod Staying
