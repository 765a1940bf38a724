pub mod GroupLists
pub mod FirstGroups
pub mod TileRunLemmas
pub mod GroupOrder
pub mod FirstTiles
