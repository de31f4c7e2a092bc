pub mod Inputs
pub mod Kept
pub mod Owing
pub mod Parts
pub mod Pieces
pub mod Prefixes
pub mod Telling
