pub mod Port
pub mod Report
pub mod Rows
pub mod Words
pub mod Placing
pub mod Counts
