pub mod Findings
pub mod Input
pub mod Texts
pub mod Verify
