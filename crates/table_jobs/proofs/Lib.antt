pub mod IdLengths
pub mod Paths
pub mod Seen
