pub mod Fills
pub mod Units
pub mod Plains
pub mod Bits
pub mod EmptyOnes
pub mod Made
pub mod Checked
pub mod InOrder
