pub mod Form
pub mod Reading
pub mod Answers
pub mod Parts
