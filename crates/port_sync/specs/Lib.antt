pub mod Aligned
pub mod Aligner
pub mod Hunting
