pub mod Words
pub mod Items
pub mod Program
pub mod Reading
