pub mod Ranking
pub mod Readings
pub mod Found
pub mod IdentifyText
pub mod IdentifyReply
pub mod Adding
pub mod BestReading
