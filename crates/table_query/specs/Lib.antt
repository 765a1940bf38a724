pub mod ReadBytes
pub mod GroupReading
pub mod Answers
pub mod Parts
pub mod Reading
pub mod Snapshots
