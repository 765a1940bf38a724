pub mod Fields
pub mod Layouts
pub mod Cells
pub mod RowCells
pub mod JsonRows
