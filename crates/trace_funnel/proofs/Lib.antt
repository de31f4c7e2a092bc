mod Places
pub mod Turning
mod Waiting
mod Nearing
pub mod Emptying
mod Shortness
pub mod Acting
mod Finding
mod Serving
mod Putting
mod Fields
mod Offering
pub mod Counting
mod Giving
pub mod Loading
pub mod Naming
pub mod Placing
pub mod Draining
