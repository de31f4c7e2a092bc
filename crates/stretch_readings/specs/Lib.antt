pub mod Stretches
pub mod Steps
pub mod Words
pub mod Guessing
