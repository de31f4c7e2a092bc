pub mod Shapes
pub mod Calls
pub mod Chosen
mod Lines
mod Windows
mod CommaLists
mod ChoiceLists
mod Again
pub mod IdLists
mod Sound
