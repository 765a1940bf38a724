pub mod CellParts
pub mod NewRows
pub mod OrderParts
pub mod ReadBack
pub mod ReadParts
pub mod TextParts
