pub mod Found
pub mod Shown
pub mod Readable
pub mod Taken
pub mod Errors
