pub mod Replies
pub mod Places
pub mod NewRows
