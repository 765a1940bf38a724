pub mod ReadingLemmas
pub mod WritingLemmas
pub mod ReadBackLemmas
pub mod HeaderLemmas
pub mod FooterLemmas
pub mod StructLemmas
pub mod GrammarLemmas
pub mod FitLemmas
