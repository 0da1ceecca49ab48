pub mod Escapes
pub mod Lists
pub mod Tags
pub mod Texts
