pub mod Names
pub mod Port
pub mod PortRows
pub mod Itm
pub mod Stp
pub mod Capture
pub mod SourceRows
