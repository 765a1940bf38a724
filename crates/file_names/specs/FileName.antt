-- The names of a table's files, after Hudi's timeline, base files and log files (table version 6).
use Rattle.std.specs.Prelude.{◌≡◌, ℕ, ◌^◌, ◌<◌, ◌≤◌, List, [], ◌∷◌, ◌++◌, Option, Some, None, codes}
use Rattle.std.specs.Fmt.{decimal}
use Rattle.hudi_base.specs.InstantTime.{IsTime, time_text}
use Rattle.hudi_base.specs.declared.file_group.GroupRef.{GroupRef}
use Rattle.table_forms.specs.NameForms.{IsPartitionPath}
use Rattle.file_names.specs.FileId.{file_id}
use Rattle.file_names.specs.declared.file_name.Action.{Action}
use Rattle.file_names.specs.declared.file_name.Action.TheVariants.{Delta, Compaction, Replace, Clean, Rollback}
use Rattle.file_names.specs.declared.file_name.State.{State}
use Rattle.file_names.specs.declared.file_name.State.TheVariants.{Requested, Inflight, Completed}
use Rattle.file_names.specs.declared.file_name.Token.{Token}
use Rattle.file_names.specs.declared.file_name.FileName.{FileName}
use Rattle.file_names.specs.declared.file_name.FileName.TheVariants.{Instant, Base, Log, Properties, Other}

-- ---- names

-- an action's name, and the one that its completed file has
abbrev pub action_name : Action → List ℕ
action_name Delta = codes "deltacommit"
action_name Compaction = codes "compaction"
action_name Replace = codes "replacecommit"
action_name Clean = codes "clean"
action_name Rollback = codes "rollback"

abbrev pub completed_name : Action → List ℕ
completed_name Compaction = codes "commit"
completed_name action = action_name action

-- what stands behind the time in the name of a file of the timeline
abbrev pub instant_ending : Action → State → List ℕ
instant_ending action Requested = codes "." ++ action_name action ++ codes ".requested"
instant_ending action Inflight = codes "." ++ action_name action ++ codes ".inflight"
instant_ending action Completed = codes "." ++ completed_name action

-- 0-<session>-<attempt>
abbrev pub token_text : Token → List ℕ
token_text token = codes "0-" ++ (decimal token.session ++ (45 ∷ decimal token.attempt))

-- The name of each file, where 47 is `/`, 46 is `.` and 95 is `_`.
unfoldable pub name_of : List ℕ → FileName → List ℕ
name_of table (Instant t action state) = codes ".hoodie/" ++ (time_text t ++ instant_ending action state)
name_of table (Base group token t) =
    group.partition ++ (47 ∷ (file_id table group ++ (95 ∷ (token_text token ++ (95 ∷ (time_text t ++ codes ".parquet"))))))
name_of table (Log group slice version token) =
    group.partition ++ (47 ∷ (46 ∷ (file_id table group ++ (95 ∷ ((time_text slice ++ (codes ".log." ++ decimal version)) ++ (95 ∷ token_text token))))))
name_of table Properties = codes ".hoodie/hoodie.properties"
name_of table Other = []

-- ---- which files have a name

-- the partition's path has the form of one, and the slots of the group are 16-bit numbers
pub record IsGroup (group : GroupRef) : Type 0 where
  pub partition : IsPartitionPath group.partition
  pub lo : group.lo < 2 ^ 16
  pub hi : group.hi < 2 ^ 16
  pub born : IsTime group.born

-- both numbers have 64 bits
pub record IsToken (token : Token) : Type 0 where
  pub session : token.session < 2 ^ 64
  pub attempt : token.attempt < 2 ^ 64

-- a base file's parts
pub record IsBase (group : GroupRef) (token : Token) (t : ℕ) : Type 0 where
  pub of_group : IsGroup group
  pub made_by : IsToken token
  pub at : IsTime t

-- a log file's parts; versions count from 1
pub record IsLog (group : GroupRef) (slice version : ℕ) (token : Token) : Type 0 where
  pub of_group : IsGroup group
  pub within : IsTime slice
  pub counted : 1 ≤ version
  pub fits : version < 2 ^ 64
  pub made_by : IsToken token

-- The file has a name: its parts are in range. `Other` has none.
abbrev pub IsNamed : FileName → Type 0
IsNamed (Instant t action state) = IsTime t
IsNamed (Base group token t) = IsBase group token t
IsNamed (Log group slice version token) = IsLog group slice version token
IsNamed Properties = Unit {0}
IsNamed Other = ⊥

-- ---- what a name is read as

-- the file whose name it is, and `Other` where it is the name of none
abbrev pub IsRead : List ℕ → List ℕ → FileName → Type 0
IsRead table name Other = (f : FileName) → IsNamed f → ¬ (name ≡ name_of table f)
IsRead table name file = IsNamed file × (name ≡ name_of table file)

-- ---- kinds and groups

-- what sort of file it is, without its parts
pub data Kind : Type 0 where
  timeline : Kind
  base : Kind
  log : Kind
  properties : Kind
  other : Kind

-- the kind of a file
abbrev pub kind_of : FileName → Kind
kind_of (Instant t action state) = timeline
kind_of (Base group token t) = base
kind_of (Log group slice version token) = log
kind_of Properties = properties
kind_of Other = other

-- the group of a file that has one
abbrev pub group_of_file : FileName → Option GroupRef
group_of_file (Base group token t) = Some group
group_of_file (Log group slice version token) = Some group
group_of_file _ = None
