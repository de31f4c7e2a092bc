pub mod Names
pub mod Lowered
pub mod Reading
pub mod Puts
pub mod ReadBack
