pub mod ByIndex
