pub mod JsonOutput
pub mod Codec
pub mod NewRowLaws
pub mod NewRows
