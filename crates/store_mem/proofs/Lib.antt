pub mod FilesLemmas
pub mod MemStoreLemmas
