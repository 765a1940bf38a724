pub mod Marks
pub mod Putting
pub mod Texts
