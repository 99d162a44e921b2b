pub mod Volumes
pub mod Lost
pub mod MapWrites
pub mod CopyWrites
pub mod PointerWrites
pub mod NextWrites
pub mod Sessions
pub mod Left
pub mod Numbers
pub mod Agendas
pub mod Preparing
pub mod Stepping
pub mod Failures
pub mod Running
pub mod FewTasks
pub mod Deficits
pub mod Beginning
pub mod Begins
pub mod LostPlaces
pub mod Reporting
pub mod Fields
pub mod Few
pub mod LostOpening
mod LeftWrites
mod Drafts
mod Releases
mod Beside
mod Moving
mod Places
mod Spare
mod Released
mod Changed
mod Whole
pub mod Counts
mod Totals
