pub mod Fields
pub mod Wanted
pub mod DosUnits
pub mod ProUnits
pub mod Empty
pub mod NewImage
pub mod Filling
pub mod Plain
