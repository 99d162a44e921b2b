pub mod VolumeFiles
pub mod TellingFailures
pub mod Reserving
pub mod Unopened
pub mod VolumeReply
pub mod VolumeFormat
