pub mod Marks
pub mod Putting
pub mod Rows
pub mod Script
pub mod Texts
