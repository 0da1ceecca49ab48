pub mod Flags
pub mod PathBound
pub mod RisingLists
pub mod Stages
