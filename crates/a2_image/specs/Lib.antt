pub mod Tracks
pub mod Image
pub mod KeptBytes
pub mod Kept
pub mod Blocks
pub mod Opening
pub mod Converting
pub mod Lending
