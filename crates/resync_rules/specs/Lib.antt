pub mod Names
pub mod Fronts
pub mod Syncing
pub mod Points
pub mod Moved
