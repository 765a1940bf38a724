pub mod DirState
pub mod ExactCounts
