pub mod Candidate
pub mod FileId
pub mod FileName
pub mod GroupIds
