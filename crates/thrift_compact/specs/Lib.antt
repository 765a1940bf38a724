pub mod Types
pub mod Heads
pub mod Values
pub mod Cursor
pub mod Writing
pub mod Within
pub mod Grammar
