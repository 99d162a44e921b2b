pub mod Bits
mod Next
mod Tracks
mod Lanes
