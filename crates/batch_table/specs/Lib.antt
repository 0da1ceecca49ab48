pub mod Contents
pub mod Lookups
