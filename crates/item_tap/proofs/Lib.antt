pub mod Choosing
pub mod Opening
