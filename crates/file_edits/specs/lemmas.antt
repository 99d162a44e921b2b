pub mod DosKeeps
pub mod ProKeeps
