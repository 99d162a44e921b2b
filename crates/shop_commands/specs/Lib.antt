pub mod CreateReply
pub mod Answer
pub mod OnDevice
pub mod Extracting
