pub mod Shown
pub mod Taken
pub mod Reading
pub mod Laws
