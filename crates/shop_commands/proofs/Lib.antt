mod Created
pub mod Answered
pub mod DosListings
pub mod Plans
pub mod Contained
