pub mod Choices
pub mod Windows
pub mod Seen
