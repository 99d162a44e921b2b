pub mod Sectors
pub mod OnTrack
