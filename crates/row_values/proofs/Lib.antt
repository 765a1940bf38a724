pub mod FieldLemmas
pub mod CellLemmas
pub mod JsonLemmas
pub mod ToldLemmas
