pub mod Names
pub mod Header
pub mod Spelling
pub mod Rule
pub mod Proper
pub mod Shortest
