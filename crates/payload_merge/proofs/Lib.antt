pub mod Contents
mod Filters
pub mod InstantFolds
mod KeyPrefixes
pub mod KeyedTables
pub mod Keys
pub mod PayloadRule
mod PrefixedWrites
mod RowsByKey
pub mod Summaries
pub mod Tables
pub mod TimeOrders
mod WritesInOrder
