pub mod Making
pub mod Saying
pub mod Fitting
pub mod Steps
pub mod Giving
