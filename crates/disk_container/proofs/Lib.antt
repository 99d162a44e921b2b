pub mod Back
pub mod Sizes
pub mod OneAnswer
pub mod Alike
pub mod Unwrapped
pub mod WorkedContainers
pub mod Shells
