pub mod BaseFiles
pub mod KeyTables
pub mod Loops
pub mod WrittenRows
