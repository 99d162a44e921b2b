pub mod Stored
pub mod Images
pub mod Failed
