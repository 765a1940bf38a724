pub mod OwnLemmas
pub mod PlaceLemmas
pub mod BaseLemmas
