pub mod Refused
pub mod Unbounded
