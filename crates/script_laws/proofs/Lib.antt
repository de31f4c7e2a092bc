mod Joining
mod Digits
mod Lowering
mod Fields
mod Fitting
mod Items
mod AllItems
mod TextLaw
mod LineLaw
pub mod TriggerLaw
pub mod Texts
pub mod Said
pub mod MappedIds
pub mod Bytes
pub mod Sources
pub mod Packets
pub mod Events
pub mod Given
pub mod Kept
pub mod Ported
