pub mod Texts
pub mod Lengths
pub mod Headers
pub mod Insides
pub mod Blocks
