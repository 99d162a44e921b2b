mod Kept
mod Lines
mod Replaced
mod Telling
mod Types
pub mod Fronts
pub mod NotMade
pub mod SameLength
mod Optimized
mod Edited
mod Saved
mod Told
mod Reclaimed
mod MadeDirectory
mod ReplacedImage
mod AsNew
