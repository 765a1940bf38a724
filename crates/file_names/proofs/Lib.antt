pub mod FileIdLemmas
pub mod GroupIdLemmas
pub mod IdTexts
pub mod NameTexts
