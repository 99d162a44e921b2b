pub mod Endings
pub mod Written
pub mod Asides
pub mod Puts
pub mod Protected
pub mod Told
pub mod Folders
pub mod Start
