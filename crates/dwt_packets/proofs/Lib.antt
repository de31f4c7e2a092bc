pub mod FirstRow
pub mod Inverses
