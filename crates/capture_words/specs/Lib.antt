pub mod Command
pub mod Values
pub mod Settings
pub mod Jobs
pub mod Texts
pub mod Choices
pub mod Calls
