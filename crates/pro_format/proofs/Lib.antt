mod Tables
mod Readers
mod Holders
pub mod OwnParts
pub mod Bytes
pub mod EntryBytes
pub mod Spelled
pub mod RewrittenEntries
pub mod Names
pub mod AccessBits
pub mod Rewrites
pub mod FileFree
pub mod Alike
pub mod FilledBlocks
pub mod FilledTrees
pub mod Numbers
pub mod FilledDirectories
pub mod Owners
pub mod EmptiedTrees
pub mod EmptiedDirectories
pub mod Counting
pub mod SlotWrites
pub mod NewPaths
pub mod OneKey
pub mod EntrySlots
pub mod SystemBlocks
pub mod SlotLaws
pub mod EntryNumbers
pub mod ErasedEntries
pub mod FileCounts
pub mod FreeSlots
pub mod BuiltPlans
pub mod Pointing
pub mod NewEntries
