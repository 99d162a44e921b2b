pub mod Pointers
pub mod Reach
pub mod Walk
