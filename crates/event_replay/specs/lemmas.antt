pub mod Tests
pub mod Meeting
