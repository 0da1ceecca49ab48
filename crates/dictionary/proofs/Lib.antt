pub mod CellRows
pub mod Ended
pub mod Filled
pub mod InOrder
pub mod Numbered
pub mod Opened
pub mod Parts
pub mod PivotRows
pub mod Pivoted
pub mod Points
pub mod Removed
pub mod Rows
mod Worked
pub mod Zeros
