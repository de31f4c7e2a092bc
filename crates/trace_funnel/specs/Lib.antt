pub mod Turns
pub mod Kept
pub mod Acts
pub mod Order
pub mod State
pub mod Queues
pub mod Inside
pub mod SoundTurns
