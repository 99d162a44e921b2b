pub mod WorkedPrograms
pub mod Showing
pub mod Numbers
pub mod Programs
pub mod Utf8
