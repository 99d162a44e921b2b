pub mod Exclusive
pub mod KnownVolume
pub mod FileAlone
pub mod Reading
pub mod EachFile
