pub mod DosShown
pub mod ProShown
