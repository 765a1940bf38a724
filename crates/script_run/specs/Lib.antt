pub mod Batches
pub mod Ends
pub mod Lines
pub mod Outcome
pub mod Parts
pub mod Runs
