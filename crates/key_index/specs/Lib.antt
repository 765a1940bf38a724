pub mod Slots
pub mod Tiling
pub mod TileRuns
