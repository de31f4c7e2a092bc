mod Reading
pub mod UnitTaking
