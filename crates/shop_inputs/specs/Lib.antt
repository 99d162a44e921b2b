pub mod Images
pub mod Beside
pub mod lemmas
