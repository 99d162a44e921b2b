pub mod Stopped
pub mod Taken
pub mod Ways
pub mod Fronts
pub mod NotMade
pub mod Told
pub mod Lent
