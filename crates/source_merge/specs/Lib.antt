pub mod Giving
pub mod Answering
pub mod Counting
pub mod Hearing
pub mod UpTo
pub mod UpToLaws
pub mod Engine
pub mod Front
