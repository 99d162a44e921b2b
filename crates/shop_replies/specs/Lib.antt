pub mod Disk
pub mod Reply
pub mod ConvertReply
pub mod Volume
pub mod Reading
pub mod ContainerReply
