pub mod Lending
pub mod Numbers
pub mod Untagged
pub mod Calling
pub mod Cutting
