pub mod PointerLaws
pub mod ReachLaws
pub mod Roots
pub mod Written
pub mod ContentLaws
pub mod FileLaws
pub mod FileReach
pub mod AboveLaws
