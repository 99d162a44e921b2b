pub mod DosEntries
pub mod ProEntries
