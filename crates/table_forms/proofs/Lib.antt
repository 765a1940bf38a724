pub mod DecimalLemmas
pub mod JsonObjectLemmas
pub mod Lists
pub mod NameFormLemmas
pub mod PieceLemmas
