pub mod Format
pub mod Single
pub mod Printed
pub mod Laws
pub mod Reading
