-- File groups, the tiles of a table's partitions, and the slices that blocks go to.
use Rattle.std.specs.Prelude.{◌≡◌, ℕ, Bool, ◌==◌, ◌&&◌, List, map}
use Rattle.std.specs.List.{list_any}
use Rattle.std.specs.List.Sorted.{IsStrictlySortedBy}
use Rattle.std.specs.Ordering.{nat_cmp, ordering_then}
use Rattle.std.specs.declared.cmp.Ordering.{Ordering}
use Rattle.std.specs.Cmp.Lexicographic.{slice_cmp}
use Rattle.std.specs.Str.{bytes_eq}
use Rattle.hudi_base.specs.declared.file_group.GroupRef.{GroupRef}
use Rattle.hudi_base.specs.declared.file_group.Target.{Target}
use Rattle.key_index.specs.Tiling.{first_groups, has_slot, is_among}
use Rattle.table_history.specs.Tables.{Table}
use Rattle.table_history.specs.declared.step.PartitionSlots.{PartitionSlots}

abbrev pub is_group : GroupRef → GroupRef → Bool
is_group a b = bytes_eq a.partition b.partition && (a.lo == b.lo) && (a.hi == b.hi) && (a.born == b.born)

abbrev pub is_target : Target → Target → Bool
is_target a b = is_group a.group b.group && (a.slice == b.slice)

-- groups by partition, slots and birth
abbrev pub group_cmp : GroupRef → GroupRef → Ordering
group_cmp a b =
    ordering_then (slice_cmp nat_cmp a.partition b.partition)
    (ordering_then (nat_cmp a.lo b.lo) (ordering_then (nat_cmp a.hi b.hi) (nat_cmp a.born b.born)))

-- ---- tiles

-- The tiles of a partition: the groups that share its slots. For now no group gives way to others, so they are the
-- first ones.
abbrev pub tiles_of : Table → List ℕ → List GroupRef
tiles_of A partition = first_groups partition A.props.buckets

-- a live group is one of its partition's tiles
abbrev pub is_live : Table → GroupRef → Bool
is_live A group = is_among (tiles_of A group.partition) group

-- the live groups that pass a test, each once, by partition and slots
pub record AreLive (A : Table) (test : GroupRef → Bool) (groups : List GroupRef) : Type 0 where
  pub are : (group : GroupRef) → is_among groups group ≡ (is_live A group && test group)
  pub order : IsStrictlySortedBy group_cmp groups

-- ---- targets

-- one of the slots is the group's
abbrev pub is_asked : List PartitionSlots → GroupRef → Bool
is_asked slots group =
    list_any (λ asked. bytes_eq asked.partition group.partition && list_any (λ slot. has_slot group slot) asked.slots) slots

-- The slice of a group that new blocks go to: for now the group's birth, since there are no compactions.
abbrev pub target_of_group : GroupRef → Target
target_of_group group = record { group = group; slice = group.born }

-- the targets of a deltacommit with these slots: their groups, each with its current slice
pub record AreTargets (A : Table) (slots : List PartitionSlots) (targets : List Target) : Type 0 where
  pub groups : List GroupRef
  pub live : AreLive A (is_asked slots) groups
  pub are : targets ≡ map target_of_group groups
