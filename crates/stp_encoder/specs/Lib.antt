pub mod Names
pub mod Fitting
pub mod Packets
pub mod Puts
pub mod Bytes
pub mod Joined
pub mod Encoder
pub mod ReadBack
