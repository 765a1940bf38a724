pub mod Levels
pub mod Plain
pub mod Pages
pub mod Parts
pub mod Answers
pub mod Forms
