pub mod ReadingLemmas
pub mod NumberLemmas
pub mod VarintLemmas
pub mod PrefixedLemmas
