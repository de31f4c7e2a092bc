pub mod Table
pub mod Packet
