-- Writes on their way to the targets that they lie in. Only private clauses cite this.
use Rattle.std.specs.Prelude.{◌≡◌, ◌⊎◌, ℕ, ◌<◌, ◌^◌, not, nat_lt, Bool, true, false, List, [], ◌∷◌, length, map, filter, get_or, slice_get, Some, All}
use Rattle.std.specs.List.{list_all}
use Rattle.std.specs.Ordering.{nat_cmp}
use Rattle.std.specs.Cmp.Lexicographic.{slice_cmp}
use Rattle.std.specs.declared.cmp.Ordering.{Ordering}
use Rattle.std.specs.declared.cmp.Ordering.TheVariants.{Less, Equal, Greater}
use Rattle.hudi_base.specs.declared.file_group.GroupRef.{GroupRef}
use Rattle.hudi_base.specs.declared.file_group.Target.{Target}
use Rattle.payload_merge.specs.declared.row.Row.{Row}
use Rattle.payload_merge.specs.declared.row.Write.{Write}
use Rattle.payload_merge.specs.declared.row.Write.TheVariants.{Put, Del}
use Rattle.table_history.specs.declared.job.Job.{Job}
use Rattle.upsert_writer.specs.BatchWrites.{is_in_group, partition_of, slot_in}
use Rattle.upsert_writer.specs.Blocks.{BlockForm, HasWrites}

-- of each target the writes that lie in its group
abbrev pub writes_of_each : List Target → List Write → List (List Write)
writes_of_each targets batch = map (λ s. filter (is_in_group s.group) batch) targets

-- what the first of two orders says, or the second where it says nothing
abbrev pub decided : Ordering → Bool → Bool
decided Less ties = true
decided Equal ties = ties
decided Greater ties = false

-- a partition's slot comes before a group, by the partition's bytes and then by the slot
abbrev pub is_before : GroupRef → List ℕ → ℕ → Bool
is_before group partition slot = decided (slice_cmp nat_cmp partition group.partition) (nat_lt slot group.lo)

abbrev pub lies_before : GroupRef → Write → Bool
lies_before group w = is_before group (partition_of w) (slot_in w)

abbrev pub lies_behind : GroupRef → Write → Bool
lies_behind group w = not (lies_before group w)

-- targets that end before a group, and targets that begin in it or behind it
abbrev pub end_before : GroupRef → List Target → Bool
end_before group = list_all (λ s. is_before group s.group.partition s.group.hi)

abbrev pub begin_behind : GroupRef → List Target → Bool
begin_behind group = list_all (λ s. not (is_before group s.group.partition s.group.lo))

-- ---- writes of one kind

-- a put of an instant's row in a partition, which is the codec's own
abbrev pub IsPutAt : (Row → Type 0) → ℕ → List ℕ → Write → Type 0
IsPutAt Own t partition (Put row) = Own row × (row.commit ≡ t) × (row.partition ≡ partition)
IsPutAt Own t partition (Del own key rank) = ⊥

-- a delete in a partition, whose key's length fits four bytes
abbrev pub IsDeleteAt : List ℕ → Write → Type 0
IsDeleteAt partition (Del own key rank) = (own ≡ partition) × (length key < 2 ^ 32)
IsDeleteAt partition (Put row) = ⊥

-- all of them puts, or all of them deletes
abbrev pub AreOfKind : (Row → Type 0) → ℕ → List ℕ → List Write → Type 0
AreOfKind Own t partition own = All (IsPutAt Own t partition) own ⊎ All (IsDeleteAt partition) own

-- whether writes of one kind are deletes; where there are none they pass for puts
abbrev pub are_deletes : List Write → Bool
are_deletes (Del partition key rank ∷ more) = true
are_deletes _ = false

-- the rows of the puts among writes
abbrev pub rows_among : List Write → List Row
rows_among [] = []
rows_among (Put row ∷ more) = row ∷ rows_among more
rows_among (Del partition key rank ∷ more) = rows_among more

-- Writes of an instant that can be written as the block of a target: they are of one kind, lie in its partition and can be
-- counted, and the table holds their block for the job.
pub record MayWrite (Own : Row → Type 0) (MayHold : Job → ℕ → Target → ℕ → List ℕ → Type 0) (job : Job) (form : BlockForm) (t : ℕ) (s : Target) (own : List Write) : Type 0 where
  pub of_kind : AreOfKind Own t s.group.partition own
  pub counted : length own < 2 ^ 32
  pub holds : (writes : ℕ) (bytes : List ℕ) → HasWrites form own t s.group writes bytes → MayHold job t s writes bytes

-- each of these parts can be written as the block of its target
abbrev pub MayWriteEach : (Row → Type 0) → (Job → ℕ → Target → ℕ → List ℕ → Type 0) → Job → BlockForm → ℕ → List Target → List (List Write) → Type 0
MayWriteEach Own MayHold job form t targets parts =
    (k : ℕ) (s : Target) → slice_get targets k ≡ Some s → MayWrite Own MayHold job form t s (get_or parts k [])
