pub mod Outputs
pub mod Roles
pub mod Foreign
pub mod Noted
