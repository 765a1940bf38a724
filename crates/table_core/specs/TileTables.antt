-- The tiles of a table with so many buckets, slot by slot.
use Rattle.std.specs.Prelude.{ℕ, Bool, ◌&&◌, List}
use Rattle.std.specs.List.{list_any}
use Rattle.std.specs.Str.{bytes_eq}
use Rattle.hudi_base.specs.declared.file_group.GroupRef.{GroupRef}
use Rattle.key_index.specs.Tiling.{first_groups, has_slot, is_among}
use Rattle.table_history.specs.declared.step.PartitionSlots.{PartitionSlots}

-- one of the groups that its partition begins with
abbrev pub is_first : ℕ → GroupRef → Bool
is_first buckets group = is_among (first_groups group.partition buckets) group

-- the one that has this slot of the partition
abbrev pub is_tile : ℕ → List ℕ → ℕ → GroupRef → Bool
is_tile buckets partition slot group = is_first buckets group && (bytes_eq partition group.partition && has_slot group slot)

-- the one of one of the slots
abbrev pub is_tile_of : ℕ → List ℕ → List ℕ → GroupRef → Bool
is_tile_of buckets partition slots group = list_any (λ slot. is_tile buckets partition slot group) slots

abbrev pub is_tile_asked : ℕ → List PartitionSlots → GroupRef → Bool
is_tile_asked buckets slots group = list_any (λ asked. is_tile_of buckets asked.partition asked.slots group) slots
