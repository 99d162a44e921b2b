pub mod Layouts
pub mod Plans
pub mod Rings
pub mod Table
pub mod Inside
pub mod Reserved
pub mod Words
