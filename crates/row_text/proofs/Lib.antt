pub mod Plain
pub mod Flat
pub mod Reading
pub mod Apart
pub mod OneLine
mod WorkedLines
pub mod Parts
