pub mod FitLemmas
pub mod PartLemmas
