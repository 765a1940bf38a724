-- The files of the groups of a partition. Which files make up a slice follows Hudi's merge-on-read tables ("File
-- Layouts"); that a view is made for one partition, and how files are matched, is this project's own.
use Rattle.std.specs.Prelude.{◌≡◌, ℕ, Bool, false, not, List, ◌++◌, filter, map, Option, Some, None}
use Rattle.std.specs.List.{find, list_any, filter_map}
use Rattle.std.specs.Str.{bytes_eq}
use Rattle.hudi_base.specs.declared.file_group.GroupRef.{GroupRef}
use Rattle.key_index.specs.Tiling.{Tiling, is_same_group}
use Rattle.file_names.specs.FileName.{name_of, group_of_file}
use Rattle.file_names.specs.declared.file_name.FileName.{FileName}
use Rattle.file_names.specs.declared.file_name.FileName.TheVariants.{Log, Other}
use Rattle.file_groups.specs.Orders.{IsSortedFrom}
use Rattle.file_groups.specs.declared.parts.BasePart.{BasePart}
use Rattle.file_groups.specs.declared.parts.GroupView.{GroupView}
use Rattle.file_groups.specs.declared.parts.LogPart.{LogPart}

-- a file has this name
abbrev pub is_named : List ℕ → List ℕ → FileName → Bool
is_named table name Other = false
is_named table name file = bytes_eq (name_of table file) name

-- one of the files, which have lengths, has this name
abbrev pub is_among : List ℕ → List (FileName × ℕ) → List ℕ → Bool
is_among table files name = list_any (λ f. is_named table name f.0) files

-- a log file as a part
abbrev pub log_part : List ℕ → FileName → ℕ → Option LogPart
log_part table (Log group slice version token) length =
    Some (record {
      group = group;
      slice = slice;
      version = version;
      name = name_of table (Log group slice version token);
      length = length;
    })
log_part table file length = None

-- the log files, in the order of the files
abbrev pub log_parts : List ℕ → List (FileName × ℕ) → List LogPart
log_parts table files = filter_map (λ f. log_part table f.0 f.1) files

-- the named base files that are among the files, in the order of the named ones
abbrev pub base_parts : List ℕ → List (FileName × ℕ) → List BasePart → List BasePart
base_parts table files named = filter (λ base. is_among table files base.name) named

abbrev pub bases_of : GroupRef → List BasePart → List BasePart
bases_of group bases = filter (λ base. is_same_group base.group group) bases

abbrev pub logs_of : GroupRef → List LogPart → List LogPart
logs_of group logs = filter (λ log. is_same_group log.group group) logs

-- a group with its own ones of base and log files
abbrev pub view_from : List BasePart → List LogPart → GroupRef → GroupView
view_from bases logs group = record { group = group; bases = bases_of group bases; logs = logs_of group logs }

abbrev pub group_view : List ℕ → List (FileName × ℕ) → List BasePart → GroupRef → GroupView
group_view table files named group = view_from (base_parts table files named) (log_parts table files) group

-- One view for each group of the partition, in the order of their first slots.
pub record AreViews (table : List ℕ) (tiles : Tiling) (files : List (FileName × ℕ)) (named : List BasePart)
    (views : List GroupView) : Type 0 where
  pub groups : List GroupRef
  pub ordered : IsSortedFrom (λ group. group.lo) (tiles.groups ++ tiles.empty) groups
  pub each : views ≡ map (group_view table files named) groups

-- ---- files of other partitions

-- the partition of a base or log file
abbrev pub partition_of : FileName → Option (List ℕ)
partition_of file = of (group_of_file file)
  where
    of : Option GroupRef → Option (List ℕ)
    of (Some group) = Some group.partition
    of None = None

abbrev pub file_partitions : List (FileName × ℕ) → List (List ℕ)
file_partitions files = filter_map (λ f. partition_of f.0) files

abbrev pub base_partitions : List BasePart → List (List ℕ)
base_partitions named = map (λ base. base.group.partition) named

-- the partitions of the files and then those of the named base files
abbrev pub partitions : List (FileName × ℕ) → List BasePart → List (List ℕ)
partitions files named = file_partitions files ++ base_partitions named

-- the first that is another one than this
abbrev pub first_other : List ℕ → List (List ℕ) → Option (List ℕ)
first_other partition others = find (λ other. not (bytes_eq other partition)) others
