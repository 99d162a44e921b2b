pub mod Moments
pub mod Volumes
pub mod Runs
pub mod Orders
pub mod Holds
pub mod Held
pub mod Unfailing
pub mod lemmas
