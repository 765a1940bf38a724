pub mod Apart
pub mod Bounds
pub mod OwnEntries
