pub mod Steps
pub mod TextsOfBlocks
