pub mod Building
pub mod FirstBreak
pub mod Line
pub mod LineFiles
pub mod NameOrder
pub mod PendingList
