pub mod Explained
pub mod Overheard
