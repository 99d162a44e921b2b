pub mod Paths
pub mod Journal
