pub mod KeptEntries
