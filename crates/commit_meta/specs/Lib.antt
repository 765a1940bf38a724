pub mod Metadata
pub mod Texts
