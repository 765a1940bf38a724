pub mod ListLemmas
pub mod Objects
pub mod PartsBack
