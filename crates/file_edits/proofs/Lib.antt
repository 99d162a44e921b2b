mod FirstNamed
mod RewrittenFile
mod Locked
mod Renamed
mod OneAnswer
mod OneRename
mod OneDeletion
pub mod Firsts
pub mod PartWrites
pub mod Plans
pub mod NewPlaces
pub mod Elsewhere
pub mod PlacedWrites
mod ReadVolumes
pub mod Savings
pub mod MadeSaving
pub mod EditedStores
pub mod LostMarks
pub mod MadeReclaim
pub mod LeafBlocks
pub mod LeafTrees
pub mod NewDirectories
pub mod LeafPaths
pub mod LeafDirectories
pub mod LeafLaws
pub mod NewBytes
pub mod PathParts
pub mod AvailableBlocks
pub mod EnteredEntries
pub mod Made
pub mod MadeDevice
pub mod TwoWrites
pub mod BlockBytes
pub mod Refusals
