-- The group of a partition that has a file id.
use Rattle.std.specs.Prelude.{◌≡◌, ◌≢◌, ℕ, Bool, ◌&&◌, ◌==◌, nat_le, not, if◌then◌else◌, List, length, slice_index, Option, Some, None, option_and_then}
use Rattle.std.specs.List.{list_all}
use Rattle.std.specs.Str.{bytes_eq}
use Rattle.hudi_base.specs.declared.file_group.GroupRef.{GroupRef}
use Rattle.table_forms.specs.NameForms.{is_partition_byte}
use Rattle.file_names.specs.Candidate.{group_of}
use Rattle.file_names.specs.FileId.{file_id}
use Rattle.file_names.specs.FileName.{IsGroup}

-- the text has the form of a partition's path, which doesn't begin with a dot (46)
abbrev pub is_partition_path : List ℕ → Bool
is_partition_path text =
    nat_le 1 (length text) && nat_le (length text) 200 && not (slice_index text 0 == 46)
    && list_all is_partition_byte text

-- the group, if this is its id
abbrev pub only_with_id : List ℕ → List ℕ → GroupRef → Option GroupRef
only_with_id table id group = if bytes_eq (file_id table group) id then Some group else None

-- the group of a partition that has this id; none where the text is no partition's path, or the id of no group of it
unfoldable pub group_with_id : List ℕ → List ℕ → List ℕ → Option GroupRef
group_with_id table partition id =
    if is_partition_path partition then option_and_then (only_with_id table id) (group_of partition id) else None

-- what was found is the one group of the partition that has the id, if there is one
abbrev pub IsGroupWithId : List ℕ → List ℕ → List ℕ → Option GroupRef → Type 0
IsGroupWithId table partition id None = (g : GroupRef) → IsGroup g → g.partition ≡ partition → file_id table g ≢ id
IsGroupWithId table partition id (Some g) = IsGroup g × (g.partition ≡ partition) × (file_id table g ≡ id)
