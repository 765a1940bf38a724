pub mod WithinLemmas
pub mod FieldsLemmas
pub mod GrammarLemmas
pub mod LevelLemmas
