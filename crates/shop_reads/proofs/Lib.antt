mod StepLemmas
mod Checks
mod Readings
pub mod Unopened
mod Quiet
pub mod NotMade
pub mod Fronts
mod FirstFiles
mod ListGoing
mod Unread
mod Pictures
mod PlaceTables
mod WorkedMap
mod OneMap
mod FirstFaults
mod Compared
mod ImageLooks
pub mod Sided
pub mod DosListings
