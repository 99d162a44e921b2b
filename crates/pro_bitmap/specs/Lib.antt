pub mod Bitmap
pub mod Count
