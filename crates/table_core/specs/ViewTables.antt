-- What a pin sees, by the control tables alone.
use Rattle.std.specs.Prelude.{◌≡◌, ℕ, ◌+◌, ◌==◌, ◌&&◌, Bool, true, false, nat_le, nat_lt, List, [], length, filter, reverse, map, Option, Some, None}
use Rattle.std.specs.BTreeMap.{get}
use Rattle.std.specs.List.{All}
use Rattle.std.specs.List.Sorted.{IsStrictlySortedBy}
use Rattle.std.specs.Map.{keys_of}
use Rattle.hudi_base.specs.declared.file_group.Target.{Target}
use Rattle.file_names.specs.FileName.{name_of}
use Rattle.file_names.specs.declared.file_name.FileName.TheVariants.{Log}
use Rattle.table_core.specs.Keys.{target_cmp}
use Rattle.table_core.specs.SliceStates.{SliceState}
use Rattle.table_core.specs.TileTables.{is_first}
use Rattle.table_core.specs.declared.control.Control.{Control}
use Rattle.table_core.specs.declared.rooms.Rooms.{Rooms}
use Rattle.table_history.specs.Instants.{greatest}
use Rattle.table_history.specs.declared.log_file.LogFile.{LogFile}
use Rattle.table_history.specs.declared.view.GroupParts.{GroupParts}
use Rattle.table_history.specs.declared.view.Part.{Part}
use Rattle.table_history.specs.declared.view.View.{View}

-- a log of a slice, in a table of this name
abbrev pub part_named : List ℕ → Target → LogFile → Part
part_named table s log = record {
  name = name_of table (Log s.group s.slice log.version (record { session = log.session; attempt = log.attempt }));
  length = log.length;
  base = false;
}

-- the slice is the current one of a tile and has a log
abbrev pub is_seen : ℕ → (Target × SliceState) → Bool
is_seen buckets entry = is_first buckets entry.0.group && ((entry.0.slice == entry.0.group.born) && nat_lt 0 (length entry.1.logs))

-- its group with its files, the least version first
abbrev pub parts_of_slice : List ℕ → (Target × SliceState) → GroupParts
parts_of_slice table entry = record { group = entry.0.group; parts = map (part_named table entry.0) (reverse entry.1.logs) }

abbrev pub groups_among : List ℕ → ℕ → List (Target × SliceState) → List GroupParts
groups_among table buckets entries = map (parts_of_slice table) (filter (is_seen buckets) entries)

-- the entries of a map stand in order, and each is found at its key
pub record AreEntries (slices : Rooms Target SliceState) : Type 0 where
  pub order : IsStrictlySortedBy target_cmp (keys_of slices.slots.entries)
  pub found : All (λ e. get target_cmp slices.slots e.0 ≡ Some e.1) slices.slots.entries

-- the groups of a view
abbrev pub ArePartsIn : Control → Option ℕ → Bool → List GroupParts → Type 0
ArePartsIn control None bases_only parts = parts ≡ []
ArePartsIn control (Some t) true parts = parts ≡ []
ArePartsIn control (Some t) false parts = (parts ≡ groups_among control.props.name control.buckets control.slices.slots.entries) × AreEntries control.slices

abbrev pub instant_in : Control → Option ℕ → Option ℕ
instant_in control None = greatest (reverse control.completed.items)
instant_in control (Some t) = Some t

abbrev pub completed_in : Control → Option ℕ → List ℕ
completed_in control None = []
completed_in control (Some t) = filter (λ u. nat_le u t) control.completed.items

-- the view of the next pin
pub record IsViewIn (control : Control) (at : Option ℕ) (bases_only : Bool) (view : View) : Type 0 where
  pub pin : view.pin ≡ control.pins_made + 1
  pub t : view.t ≡ instant_in control at
  pub groups : ArePartsIn control view.t bases_only view.groups
  pub completed : view.completed ≡ completed_in control view.t
