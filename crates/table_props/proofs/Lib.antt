pub mod LineLemmas
pub mod FieldLemmas
pub mod NameLemmas
pub mod EntryLemmas
pub mod ToldLemmas
pub mod FeedLemmas
pub mod SchemaNames
pub mod BackLemmas
