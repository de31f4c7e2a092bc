pub mod Runs
pub mod Merge
pub mod Report
pub mod Packets
pub mod Plan
pub mod Tails
pub mod Fitting
