pub mod PutParts
pub mod RowParts
