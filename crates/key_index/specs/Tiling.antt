-- How file groups share the slots of a partition. This project's own.
use Rattle.std.specs.Prelude.{◌≡◌, ◌≢◌, ℕ, ◌+◌, ◌-◌, ◌*◌, ◌/◌, ◌<◌, ◌≤◌, ◌==◌, ◌&&◌, nat_le, not, Bool, List, [], ◌++◌, length, filter, map}
use Rattle.std.specs.List.{list_any, range_with_len}
use Rattle.std.specs.List.Sorted.{IsPermutation, IsNonDecreasingBy}
use Rattle.std.specs.Str.{bytes_eq}
use Rattle.hudi_base.specs.InstantTime.{first_time}
use Rattle.hudi_base.specs.declared.file_group.GroupRef.{GroupRef}
use Rattle.key_index.specs.Slots.{slot_count}

-- a group has the slots from `lo` to `hi`
abbrev pub has_slot : GroupRef → ℕ → Bool
has_slot group slot = nat_le group.lo slot && nat_le slot group.hi

-- the groups that have a slot
unfoldable pub groups_at : ℕ → List GroupRef → List GroupRef
groups_at slot groups = filter (λ group. has_slot group slot) groups

-- each slot has exactly one group
abbrev pub IsTiling : List GroupRef → Type 0
IsTiling groups = (slot : ℕ) → slot < slot_count → length (groups_at slot groups) ≡ 1

-- the least slot that has no group, or more than one
pub record IsLeastMistiled (groups : List GroupRef) (slot : ℕ) : Type 0 where
  pub in_range : slot < slot_count
  pub not_once : length (groups_at slot groups) ≢ 1
  pub least : (lower : ℕ) → lower < slot → length (groups_at lower groups) ≡ 1

-- the tiling of a partition
pub record Tiling : Type 0 where
  pub partition : List ℕ
  -- the groups that have slots, in order of their slots
  pub groups : List GroupRef
  -- the groups whose `lo` is above their `hi`
  pub empty : List GroupRef

-- ---- the first tiling of a partition

-- A partition may begin with 1 to 1,024 groups.
abbrev pub IsBuckets : ℕ → Type 0
IsBuckets buckets = (1 ≤ buckets) × (buckets ≤ 1024)

-- the first slot of the bucket of that number, of so many in all
abbrev pub first_start : ℕ → ℕ → ℕ
first_start buckets i = i * slot_count / buckets

-- that bucket
abbrev pub first_group : List ℕ → ℕ → ℕ → GroupRef
first_group partition buckets i = record {
  partition = partition;
  lo = first_start buckets i;
  hi = first_start buckets (i + 1) - 1;
  born = first_time;
}

unfoldable pub first_groups : List ℕ → ℕ → List GroupRef
first_groups partition buckets = map (first_group partition buckets) (range_with_len 0 buckets)

abbrev pub first_tiling : List ℕ → ℕ → Tiling
first_tiling partition buckets = record { partition = partition; groups = first_groups partition buckets; empty = [] }

-- ---- a tiling after old groups gave way to new ones

abbrev pub is_same_group : GroupRef → GroupRef → Bool
is_same_group g h = bytes_eq g.partition h.partition && (g.lo == h.lo && (g.hi == h.hi && g.born == h.born))

abbrev pub is_among : List GroupRef → GroupRef → Bool
is_among groups group = list_any (λ other. is_same_group group other) groups

-- the groups that aren't among the old ones
abbrev pub without : List GroupRef → List GroupRef → List GroupRef
without old groups = filter (λ group. not (is_among old group)) groups

abbrev pub has_slots : GroupRef → Bool
has_slots group = nat_le group.lo group.hi

-- the groups that have slots afterwards, in no order; they may fail to be a tiling
abbrev pub groups_after : Tiling → List GroupRef → List GroupRef → List GroupRef
groups_after tiling old new = without old tiling.groups ++ filter has_slots new

-- the groups that have none
abbrev pub empty_after : Tiling → List GroupRef → List GroupRef → List GroupRef
empty_after tiling old new = without old tiling.empty ++ filter (λ group. not (has_slots group)) new

abbrev pub AreInOrder : List GroupRef → Type 0
AreInOrder groups = IsNonDecreasingBy (λ group. group.lo) groups

-- The tiling `after` is `before` where the groups `old` gave way to the groups `new`.
pub record IsReplaced (before after : Tiling) (old new : List GroupRef) : Type 0 where
  pub partition : after.partition ≡ before.partition
  pub groups : IsPermutation (groups_after before old new) after.groups
  pub order : AreInOrder after.groups
  pub empty : after.empty ≡ empty_after before old new
