pub mod Steps
pub mod Taking
pub mod Putting
pub mod Apart
pub mod Replying
