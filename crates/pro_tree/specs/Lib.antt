pub mod Pointers
pub mod Reach
pub mod Content
pub mod File
pub mod Parts
pub mod Walk
pub mod Above
pub mod lemmas
