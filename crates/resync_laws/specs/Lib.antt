pub mod Names
pub mod Points
pub mod Report
pub mod Rows
pub mod FromPoints
pub mod Moved
pub mod Resumed
