pub mod Cells
pub mod CodecLaws
pub mod Contents
pub mod NewRowLaws
pub mod OwnRows
pub mod PlainValues
pub mod Readers
