pub mod TreeLaws
pub mod VolumeLaws
