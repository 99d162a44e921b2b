pub mod Input
pub mod Job
