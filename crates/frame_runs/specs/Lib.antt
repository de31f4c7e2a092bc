pub mod Data
pub mod Gathered
pub mod Pairs
pub mod Run
pub mod Piece
pub mod Split
