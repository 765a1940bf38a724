-- What the files of the timeline hold. Which files there are follows Hudi (table version 6); their contents are this
-- project's own.
use Rattle.std.specs.Prelude.{ℕ, if◌then◌else◌, List, [], ◌∷◌, Option, Some, None, Result, Ok, Err, codes}
use Rattle.std.specs.Option.{ok_or}
use Rattle.std.specs.Ordering.{nat_cmp, is_gt}
use Rattle.std.specs.Cmp.Lexicographic.{slice_cmp}
use Rattle.serde_json.specs.Data.{Data, object}
use Rattle.table_forms.specs.JsonObjects.{json_of, least_unknown}
use Rattle.hudi_base.specs.declared.file_group.Target.{Target}
use Rattle.file_names.specs.declared.file_name.Action.{Action}
use Rattle.file_names.specs.declared.file_name.Action.TheVariants as action
use Rattle.file_names.specs.declared.file_name.State.{State}
use Rattle.file_names.specs.declared.file_name.State.TheVariants.{Requested, Inflight, Completed}
use Rattle.meta_parts.specs.Members.{text_in, number_in, number_32_in, time_in, kind_in, or_null, list_in, at_member}
use Rattle.meta_parts.specs.Parts.{group_in, target_in, written_target_in, plan_group_in, base_in}
use Rattle.commit_meta.specs.declared.content.Content.{Content}
use Rattle.commit_meta.specs.declared.content.Content.TheVariants as content
use Rattle.commit_meta.specs.declared.meta.Meta.{Meta}
use Rattle.commit_meta.specs.declared.meta.Meta.TheVariants.{Empty, Claims, Delta, Compact, Bases, Cluster, Replaced, Clean, Cleaned, Rollback, RolledBack}

-- ---- contents

-- the object that a file holds, by the action and the state that it marks; none where it has no bytes
abbrev pub content_of : Action → State → Option Content
content_of action.Delta Requested = None
content_of action.Delta Inflight = Some content.Claims
content_of action.Delta Completed = Some content.Delta
content_of action.Compaction Requested = Some content.Compact
content_of action.Compaction Completed = Some content.Bases
content_of action.Replace Requested = Some content.Cluster
content_of action.Replace Completed = Some content.Replaced
content_of action.Clean Requested = Some content.Clean
content_of action.Clean Completed = Some content.Cleaned
content_of action.Rollback Requested = Some content.Rollback
content_of action.Rollback Completed = Some content.RolledBack
content_of any Inflight = None

-- the names of an object's members, in byte order
abbrev pub known_members : Content → List (List ℕ)
known_members content.Claims = codes "groups" ∷ []
known_members content.Delta = codes "checkpoint" ∷ codes "groups" ∷ []
known_members content.Compact = codes "groups" ∷ []
known_members content.Bases = codes "bases" ∷ []
known_members content.Cluster = codes "from" ∷ codes "order" ∷ codes "to" ∷ []
known_members content.Replaced = codes "bases" ∷ codes "replaced" ∷ []
known_members content.Clean = codes "earliest" ∷ codes "files" ∷ []
known_members content.Cleaned = codes "removed" ∷ []
known_members content.Rollback = codes "files" ∷ codes "groups" ∷ codes "kind" ∷ codes "target" ∷ []
known_members content.RolledBack = codes "target" ∷ []

-- ---- reading ends at the first member, in byte order, that is at fault, and gives its name

infixl 10 ◌>>=◌
abbrev pub ◌>>=◌ : {A B : Type 0} → Result A (List ℕ) → (A → Result B (List ℕ)) → Result B (List ℕ)
(Ok x) >>= f = f x
(Err field) >>= f = Err field

-- the value of a member that has to be there
abbrev pub required : {A : Type 0} → (Data → Option A) → List ℕ → Data → Result A (List ℕ)
required reads name d = ok_or (at_member reads name d) name

abbrev pub lesser : List ℕ → List ℕ → List ℕ
lesser a b = if is_gt (slice_cmp nat_cmp a b) then b else a

-- an unknown member is at fault too
abbrev pub with_unknown : {A : Type 0} → Option (List ℕ) → Result A (List ℕ) → Result A (List ℕ)
with_unknown None read = read
with_unknown (Some unknown) (Ok x) = Err unknown
with_unknown (Some unknown) (Err field) = Err (lesser field unknown)

-- ---- objects. `table` is the table's name.

-- {"groups":[..]}
unfoldable pub claims_in : List ℕ → Data → Result Meta (List ℕ)
claims_in table d = do
  groups ← required (list_in (target_in table)) (codes "groups") d
  Ok (Claims groups)

-- {"checkpoint":..,"groups":[..]}
unfoldable pub delta_in : List ℕ → Data → Result Meta (List ℕ)
delta_in table d = do
  checkpoint ← required (or_null number_in) (codes "checkpoint") d
  groups ← required (list_in (written_target_in table)) (codes "groups") d
  Ok (Delta (record { checkpoint = checkpoint; groups = groups }))

-- {"groups":[..]}
unfoldable pub compact_in : List ℕ → Data → Result Meta (List ℕ)
compact_in table d = do
  groups ← required (list_in (plan_group_in table)) (codes "groups") d
  Ok (Compact (record { groups = groups }))

-- {"bases":[..]}
unfoldable pub bases_in : List ℕ → Data → Result Meta (List ℕ)
bases_in table d = do
  bases ← required (list_in (base_in table)) (codes "bases") d
  Ok (Bases (record { bases = bases }))

-- {"from":[..],"order":..,"to":[..]}
unfoldable pub cluster_in : List ℕ → Data → Result Meta (List ℕ)
cluster_in table d = do
  from ← required (list_in (plan_group_in table)) (codes "from") d
  order ← required (or_null text_in) (codes "order") d
  to ← required (list_in (group_in table)) (codes "to") d
  Ok (Cluster (record { from = from; order = order; to = to }))

-- {"bases":[..],"replaced":[..]}
unfoldable pub replaced_in : List ℕ → Data → Result Meta (List ℕ)
replaced_in table d = do
  bases ← required (list_in (base_in table)) (codes "bases") d
  replaced ← required (list_in (group_in table)) (codes "replaced") d
  Ok (Replaced (record { bases = bases; replaced = replaced }))

-- {"earliest":..,"files":[..]}
unfoldable pub clean_in : Data → Result Meta (List ℕ)
clean_in d = do
  earliest ← required time_in (codes "earliest") d
  files ← required (list_in text_in) (codes "files") d
  Ok (Clean (record { earliest = earliest; files = files }))

-- {"removed":..}
unfoldable pub cleaned_in : Data → Result Meta (List ℕ)
cleaned_in d = do
  removed ← required number_32_in (codes "removed") d
  Ok (Cleaned removed)

-- A rollback of a deltacommit lists no files, and one of a replacecommit no groups.
abbrev pub files_for : Option Action → List (List ℕ) → Result (List (List ℕ)) (List ℕ)
files_for (Some action.Delta) (file ∷ files) = Err (codes "files")
files_for kind files = Ok files

abbrev pub groups_for : Option Action → List Target → Result (List Target) (List ℕ)
groups_for (Some action.Replace) (group ∷ groups) = Err (codes "groups")
groups_for kind groups = Ok groups

-- {"files":[..],"groups":[..],"kind":..,"target":..}
unfoldable pub rollback_in : List ℕ → Data → Result Meta (List ℕ)
rollback_in table d = do
  files ← required (list_in text_in) (codes "files") d >>= files_for (at_member kind_in (codes "kind") d)
  groups ← required (list_in (target_in table)) (codes "groups") d >>= groups_for (at_member kind_in (codes "kind") d)
  kind ← required kind_in (codes "kind") d
  target ← required time_in (codes "target") d
  Ok (Rollback (record { target = target; kind = kind; groups = groups; files = files }))

-- {"target":..}
unfoldable pub rolled_back_in : Data → Result Meta (List ℕ)
rolled_back_in d = do
  target ← required time_in (codes "target") d
  Ok (RolledBack target)

-- ---- files

-- a file without bytes
abbrev pub empty_in : List ℕ → Result Meta (List ℕ)
empty_in [] = Ok Empty
empty_in (byte ∷ bytes) = Err []

-- the object that a JSON value is; no member is at fault where it is none
abbrev pub object_in : Option Data → Result Data (List ℕ)
object_in (Some (object members)) = Ok (object members)
object_in other = Err []

-- what the members of an object say
abbrev pub members_in : List ℕ → Content → Data → Result Meta (List ℕ)
members_in table content.Claims d = claims_in table d
members_in table content.Delta d = delta_in table d
members_in table content.Compact d = compact_in table d
members_in table content.Bases d = bases_in table d
members_in table content.Cluster d = cluster_in table d
members_in table content.Replaced d = replaced_in table d
members_in table content.Clean d = clean_in d
members_in table content.Cleaned d = cleaned_in d
members_in table content.Rollback d = rollback_in table d
members_in table content.RolledBack d = rolled_back_in d

-- what an object says that has exactly these members
unfoldable pub read_object : List ℕ → Content → Data → Result Meta (List ℕ)
read_object table content d = with_unknown (least_unknown (known_members content) d) (members_in table content d)

-- the metadata of that content in a file's bytes
unfoldable pub read_as : List ℕ → Option Content → List ℕ → Result Meta (List ℕ)
read_as table None bytes = empty_in bytes
read_as table (Some content) bytes = object_in (json_of bytes) >>= read_object table content

-- the metadata of a file, or the name of the member at fault: the first in byte order, or the empty name
abbrev pub meta_of : List ℕ → Action → State → List ℕ → Result Meta (List ℕ)
meta_of table action state bytes = read_as table (content_of action state) bytes
