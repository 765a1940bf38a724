pub mod Pairs
pub mod RepliesOfSteps
