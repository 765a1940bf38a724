pub mod KeyLemmas
pub mod OrderLemmas
pub mod RowLemmas
pub mod WriteLemmas
pub mod LastRowLemmas
