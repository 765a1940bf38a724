-- The objects inside metadata, each with exactly the members of its equation. `table` is the table's name.
use Rattle.std.specs.Prelude.{ℕ, List, [], ◌∷◌, map, Option, Some, None, codes}
use Rattle.hudi_base.specs.InstantTime.{IsTime, time_text}
use Rattle.hudi_base.specs.declared.file_group.GroupRef.{GroupRef}
use Rattle.hudi_base.specs.declared.file_group.Target.{Target}
use Rattle.serde_json.specs.Data as json
use Rattle.serde_json.specs.Data.{Data, Members, no_members, member, unsigned}
use Rattle.serde_json.specs.View.{items_of}
use Rattle.file_names.specs.FileId.{file_id}
use Rattle.file_names.specs.FileName.{IsGroup, action_name}
use Rattle.file_names.specs.GroupIds.{group_with_id}
use Rattle.file_names.specs.declared.file_name.Action.{Action}
use Rattle.meta_parts.specs.Members.{◌>>=◌, text_in, number_in, number_32_in, time_in, list_in, or_null, at_member, only}
use Rattle.meta_parts.specs.declared.parts.NamedFile.{NamedFile}
use Rattle.meta_parts.specs.declared.parts.PlanGroup.{PlanGroup}
use Rattle.meta_parts.specs.declared.parts.BaseMade.{BaseMade}

-- ---- read

-- the group whose partition and file id these members are
unfoldable pub group_at : List ℕ → Data → Option GroupRef
group_at table d = do
  partition ← at_member text_in (codes "partition") d
  id ← at_member text_in (codes "file") d
  group_with_id table partition id

-- {"file":..,"partition":..}
unfoldable pub group_in : List ℕ → Data → Option GroupRef
group_in table d = only (codes "file" ∷ codes "partition" ∷ []) d (group_at table d)

-- a group with a slice of it
unfoldable pub target_at : List ℕ → Data → Option Target
target_at table d = do
  group ← group_at table d
  slice ← at_member time_in (codes "base") d
  Some (record { group = group; slice = slice })

-- {"base":..,"file":..,"partition":..}
unfoldable pub target_in : List ℕ → Data → Option Target
target_in table d = only (codes "base" ∷ codes "file" ∷ codes "partition" ∷ []) d (target_at table d)

-- {"base":..,"file":..,"partition":..,"writes":..}
unfoldable pub written_target_in : List ℕ → Data → Option (Target × ℕ)
written_target_in table d = only (codes "base" ∷ codes "file" ∷ codes "partition" ∷ codes "writes" ∷ []) d do
  target ← target_at table d
  writes ← at_member number_32_in (codes "writes") d
  Some (target, writes)

-- {"length":..,"name":..}
unfoldable pub file_in : Data → Option NamedFile
file_in d = only (codes "length" ∷ codes "name" ∷ []) d do
  length ← at_member number_in (codes "length") d
  name ← at_member text_in (codes "name") d
  Some (record { name = name; length = length })

-- {"base":..,"file":..,"logs":[..],"partition":..}, where the base may be null
unfoldable pub plan_group_in : List ℕ → Data → Option PlanGroup
plan_group_in table d = only (codes "base" ∷ codes "file" ∷ codes "logs" ∷ codes "partition" ∷ []) d do
  group ← group_at table d
  base ← at_member (or_null file_in) (codes "base") d
  logs ← at_member (list_in file_in) (codes "logs") d
  Some (record { group = group; base = base; logs = logs })

-- {"file":..,"length":..,"name":..,"partition":..,"rows":..}
unfoldable pub base_in : List ℕ → Data → Option BaseMade
base_in table d = only (codes "file" ∷ codes "length" ∷ codes "name" ∷ codes "partition" ∷ codes "rows" ∷ []) d do
  group ← group_at table d
  name ← at_member text_in (codes "name") d
  length ← at_member number_in (codes "length") d
  rows ← at_member number_in (codes "rows") d
  Some (record { group = group; name = name; length = length; rows = rows })

-- ---- written

abbrev pub text_json : List ℕ → Data
text_json text = json.string text

abbrev pub time_json : ℕ → Data
time_json t = json.string (time_text t)

abbrev pub kind_json : Action → Data
kind_json action = json.string (action_name action)

abbrev pub number_json : ℕ → Data
number_json n = json.number (unsigned n)

abbrev pub list_json : {A : Type 0} → (A → Data) → List A → Data
list_json writes xs = json.array (items_of (map writes xs))

abbrev pub null_or : {A : Type 0} → (A → Data) → Option A → Data
null_or writes None = json.null
null_or writes (Some x) = writes x

abbrev pub id_json : List ℕ → GroupRef → Data
id_json table group = json.string (file_id table group)

abbrev pub group_json : List ℕ → GroupRef → Data
group_json table group = json.object (
    member (codes "file") (id_json table group) (
    member (codes "partition") (json.string group.partition) no_members))

abbrev pub target_json : List ℕ → Target → Data
target_json table target = json.object (
    member (codes "base") (time_json target.slice) (
    member (codes "file") (id_json table target.group) (
    member (codes "partition") (json.string target.group.partition) no_members)))

abbrev pub written_target_json : List ℕ → Target × ℕ → Data
written_target_json table written = json.object (
    member (codes "base") (time_json written.0.slice) (
    member (codes "file") (id_json table written.0.group) (
    member (codes "partition") (json.string written.0.group.partition) (
    member (codes "writes") (number_json written.1) no_members))))

abbrev pub file_json : NamedFile → Data
file_json file = json.object (
    member (codes "length") (number_json file.length) (
    member (codes "name") (json.string file.name) no_members))

abbrev pub plan_group_json : List ℕ → PlanGroup → Data
plan_group_json table plan = json.object (
    member (codes "base") (null_or file_json plan.base) (
    member (codes "file") (id_json table plan.group) (
    member (codes "logs") (list_json file_json plan.logs) (
    member (codes "partition") (json.string plan.group.partition) no_members))))

abbrev pub base_json : List ℕ → BaseMade → Data
base_json table base = json.object (
    member (codes "file") (id_json table base.group) (
    member (codes "length") (number_json base.length) (
    member (codes "name") (json.string base.name) (
    member (codes "partition") (json.string base.group.partition) (
    member (codes "rows") (number_json base.rows) no_members)))))

-- ---- which slices have a written form

pub record IsTarget (target : Target) : Type 0 where
  pub group : IsGroup target.group
  pub slice : IsTime target.slice
