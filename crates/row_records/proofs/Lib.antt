pub mod CellLemmas
pub mod HeadLemmas
pub mod RecordLemmas
pub mod ContentLemmas
pub mod PlaceLemmas
pub mod LawLemmas
pub mod LengthLemmas
