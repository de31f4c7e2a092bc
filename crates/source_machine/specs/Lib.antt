pub mod Names
pub mod Machine
pub mod Seen
pub mod SeenLaws
pub mod MachineLaws
pub mod Units
pub mod UnitLaws
pub mod Finding
