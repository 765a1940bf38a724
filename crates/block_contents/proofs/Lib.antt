pub mod ItemLemmas
pub mod DeleteLemmas
