pub mod Flat
pub mod Keys
pub mod PropsTexts
pub mod LentEntries
