pub mod DosListing
