pub mod Fresh
pub mod OfImage
pub mod Fronts
pub mod NotMade
pub mod OfFormat
