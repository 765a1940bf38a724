pub mod Chains
pub mod Names
pub mod Orders
pub mod Slots
pub mod Views
