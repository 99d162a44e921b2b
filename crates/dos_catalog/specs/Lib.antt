pub mod Entry
pub mod Writes
pub mod Catalog
pub mod Listed
pub mod Found
pub mod Walk
pub mod lemmas
