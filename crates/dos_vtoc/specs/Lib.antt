pub mod Vtoc
pub mod Count
