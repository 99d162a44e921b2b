pub mod Alike
pub mod Taking
pub mod Lines
pub mod SoFar
pub mod Runs
pub mod WorkedTexts
pub mod Utf8
