mod Consumed
mod Emptied
mod Found
mod Leading
mod Splits
