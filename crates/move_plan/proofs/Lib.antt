mod Counts
mod Steps
mod Runs
mod Holes
mod Turns
mod Done
