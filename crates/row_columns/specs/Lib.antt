pub mod Base
pub mod Readers
