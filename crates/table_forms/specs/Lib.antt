pub mod Decimals
pub mod JsonObjects
pub mod NameForms
pub mod Pieces
