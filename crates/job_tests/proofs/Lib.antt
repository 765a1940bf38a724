pub mod Batches
pub mod Marks
