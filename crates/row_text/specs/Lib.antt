pub mod Shown
pub mod Places
pub mod Row
pub mod Csv
pub mod Laws
