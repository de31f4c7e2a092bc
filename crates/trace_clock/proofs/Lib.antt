pub mod DigitSums
pub mod GlobalStamps
pub mod GrayCodes
pub mod LastStamps
pub mod LastWords
