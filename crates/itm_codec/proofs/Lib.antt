pub mod Answering
pub mod Encoding
pub mod Fronts
pub mod Holding
pub mod Joining
pub mod Parts
pub mod Places
pub mod Seconds
pub mod Syncs
pub mod Waiting
pub mod Wholes
pub mod Told
pub mod Windows
pub mod Zeros
mod Looking
pub mod Skipping
