pub mod Extracted
pub mod Planned
pub mod Stored
pub mod Whole
