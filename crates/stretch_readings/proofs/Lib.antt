pub mod Feeding
pub mod StretchLaws
pub mod Guesses
pub mod Continuing
