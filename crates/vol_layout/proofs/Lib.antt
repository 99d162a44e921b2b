pub mod Lists
pub mod RingLemmas
pub mod RingPaths
pub mod LowerBound
pub mod Deficits
pub mod Existence
pub mod PlanLemmas
pub mod ShortestPlans
mod TableLemmas
pub mod Numbers
pub mod Places
pub mod Tables
