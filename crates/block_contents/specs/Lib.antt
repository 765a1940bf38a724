pub mod Contents
pub mod Deletes
pub mod Readers
