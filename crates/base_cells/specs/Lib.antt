pub mod Binding
pub mod Ends
pub mod Columns
pub mod Turned
pub mod Cells
pub mod Answers
pub mod Written
