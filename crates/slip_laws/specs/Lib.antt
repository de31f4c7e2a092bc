pub mod Lost
pub mod Slips
pub mod Following
