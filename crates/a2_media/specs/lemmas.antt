pub mod Units
pub mod Written
pub mod Windows
