pub mod ReadBack
pub mod Readable
