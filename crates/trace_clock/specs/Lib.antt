pub mod GlobalClock
pub mod GlobalTime
pub mod GrayCode
pub mod LastWord
pub mod LocalTime
pub mod StampWords
