mod Bits
mod Counting
mod Lanes
mod Next
mod Units
