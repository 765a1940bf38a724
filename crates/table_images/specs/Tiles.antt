-- The groups that share the slots of partitions.
use Rattle.std.specs.Prelude.{ℕ, List}
use Rattle.key_index.specs.Tiling.{IsBuckets, IsTiling}
use Rattle.table_history.specs.Tables.{Table}
use Rattle.table_history.specs.Targets.{tiles_of}

-- a partition begins with 1 to 1,024 groups, and each slot of each partition has exactly one group
abbrev pub TilesHold : Table → Type 0
TilesHold A = IsBuckets A.props.buckets × ((partition : List ℕ) → IsTiling (tiles_of A partition))
