mod Counting
pub mod Opening
mod Parts
