pub mod Dates
pub mod Moments
pub mod ShownDates
pub mod Stamps
pub mod SaidDates
