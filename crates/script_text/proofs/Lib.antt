pub mod Splitting
mod FirstWords
pub mod Hexadecimals
pub mod Options
pub mod Fields
pub mod Ranges
pub mod LineRanges
pub mod NewLines
