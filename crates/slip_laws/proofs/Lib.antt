pub mod Lines
pub mod Failing
pub mod Slips
pub mod Following
