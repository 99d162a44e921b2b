mod Small
mod DatesDecided
mod NoMinutes
mod SaidDates
mod Digits
