pub mod Words
pub mod Program
pub mod Scan
pub mod Tokens
pub mod Laws
pub mod Reading
