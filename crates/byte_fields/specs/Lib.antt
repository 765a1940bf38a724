pub mod Reading
pub mod Numbers
pub mod Varints
pub mod Prefixed
