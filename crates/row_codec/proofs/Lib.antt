pub mod JsonLemmas
pub mod NewRows
