pub mod Disks
pub mod Fronts
pub mod Converted
pub mod NotMade
pub mod Appended
pub mod Taken
pub mod Lacking
