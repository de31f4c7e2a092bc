pub mod Names
pub mod Exercise
pub mod Making
pub mod Maker
pub mod Source
pub mod Summary
pub mod SummaryLaws
pub mod Exerciser
