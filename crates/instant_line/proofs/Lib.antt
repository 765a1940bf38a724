pub mod Builds
pub mod Dropped
pub mod EntryLists
pub mod FirstBreaks
pub mod InTime
pub mod LineLaws
pub mod Moves
pub mod NameNumbers
