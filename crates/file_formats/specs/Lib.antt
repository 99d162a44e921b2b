pub mod Files
pub mod FileNames
pub mod Listing
pub mod DosFiles
pub mod Catalog
pub mod ProFiles
pub mod ProListing
pub mod lemmas
