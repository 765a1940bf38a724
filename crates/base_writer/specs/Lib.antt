pub mod Fitting
pub mod GroupParts
