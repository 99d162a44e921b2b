pub mod Results
pub mod Ordered
pub mod Skews
pub mod Tables
