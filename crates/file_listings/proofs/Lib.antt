pub mod KnownLists
pub mod Names
pub mod Lines
mod RowLines
