pub mod HeaderLemmas
pub mod TurnedLemmas
pub mod PageLemmas
pub mod CountLemmas
pub mod ChunkLemmas
