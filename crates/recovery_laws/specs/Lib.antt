pub mod Strict
pub mod Order
pub mod Distinct
