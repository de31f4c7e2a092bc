pub mod Counts
pub mod Adding
pub mod Kept
