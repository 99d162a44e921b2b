pub mod Order
pub mod Format
pub mod Container
pub mod Faults
pub mod Wrapped
pub mod Laws
