mod Ranges
mod ListWrites
mod TableWrites
pub mod Bodies
pub mod Changed
pub mod EntryWrites
pub mod MadeDeletion
pub mod WholeDelete
pub mod NameWrites
pub mod NamedEntries
pub mod ErasedEntries
pub mod Deletions
pub mod Edits
mod Making
mod Nearest
mod MarkedUnits
pub mod MarkingWrites
mod MarkedPlaces
mod Walked
mod ProTargets
mod PathStarts
