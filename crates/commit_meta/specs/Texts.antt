-- The bytes of metadata, and which of it has a written form.
use Rattle.std.specs.Prelude.{◌≡◌, ℕ, ◌<◌, ◌^◌, List, [], Option, Some, None, Result, Ok, Err, codes}
use Rattle.std.specs.List.{AllByRecursion}
use Rattle.serde_json.specs.Data as json
use Rattle.serde_json.specs.Data.{Data, no_members, member}
use Rattle.serde_json.specs.Written.{compact_text}
use Rattle.hudi_base.specs.InstantTime.{IsTime}
use Rattle.file_names.specs.FileName.{IsGroup}
use Rattle.file_names.specs.declared.file_name.Action.{Action}
use Rattle.file_names.specs.declared.file_name.Action.TheVariants as action
use Rattle.meta_parts.specs.Parts.{IsTarget, text_json, time_json, kind_json, number_json, list_json, null_or, group_json, target_json, written_target_json, plan_group_json, base_json}
use Rattle.commit_meta.specs.declared.content.Content.{Content}
use Rattle.commit_meta.specs.declared.content.Content.TheVariants as content
use Rattle.commit_meta.specs.declared.meta.Meta.{Meta}
use Rattle.commit_meta.specs.declared.meta.Meta.TheVariants.{Empty, Claims, Delta, Compact, Bases, Cluster, Replaced, Clean, Cleaned, Rollback, RolledBack}
use Rattle.commit_meta.specs.declared.meta.RollbackPlan.{RollbackPlan}
use Rattle.commit_meta.specs.declared.meta_error.MetaTextError.{MetaTextError}
use Rattle.commit_meta.specs.declared.meta_error.MetaTextError.TheVariants.{Memory, BadMeta}

-- ---- written

-- the object of metadata, with its members in byte order; what is empty has none
abbrev pub meta_json : List ℕ → Meta → Data
meta_json table Empty = json.null
meta_json table (Claims groups) = json.object (
    member (codes "groups") (list_json (target_json table) groups) no_members)
meta_json table (Delta meta) = json.object (
    member (codes "checkpoint") (null_or number_json meta.checkpoint) (
    member (codes "groups") (list_json (written_target_json table) meta.groups) no_members))
meta_json table (Compact plan) = json.object (
    member (codes "groups") (list_json (plan_group_json table) plan.groups) no_members)
meta_json table (Bases meta) = json.object (
    member (codes "bases") (list_json (base_json table) meta.bases) no_members)
meta_json table (Cluster plan) = json.object (
    member (codes "from") (list_json (plan_group_json table) plan.from) (
    member (codes "order") (null_or text_json plan.order) (
    member (codes "to") (list_json (group_json table) plan.to) no_members)))
meta_json table (Replaced meta) = json.object (
    member (codes "bases") (list_json (base_json table) meta.bases) (
    member (codes "replaced") (list_json (group_json table) meta.replaced) no_members))
meta_json table (Clean plan) = json.object (
    member (codes "earliest") (time_json plan.earliest) (
    member (codes "files") (list_json text_json plan.files) no_members))
meta_json table (Cleaned removed) = json.object (
    member (codes "removed") (number_json removed) no_members)
meta_json table (Rollback plan) = json.object (
    member (codes "files") (list_json text_json plan.files) (
    member (codes "groups") (list_json (target_json table) plan.groups) (
    member (codes "kind") (kind_json plan.kind) (
    member (codes "target") (time_json plan.target) no_members))))
meta_json table (RolledBack target) = json.object (
    member (codes "target") (time_json target) no_members)

-- the bytes of a file: none, or the object without white space
unfoldable pub meta_bytes : List ℕ → Meta → List ℕ
meta_bytes table Empty = []
meta_bytes table meta = compact_text (meta_json table meta)

-- ---- which metadata is read back

-- the object that a file of it holds
abbrev pub content_in : Meta → Option Content
content_in Empty = None
content_in (Claims groups) = Some content.Claims
content_in (Delta meta) = Some content.Delta
content_in (Compact plan) = Some content.Compact
content_in (Bases meta) = Some content.Bases
content_in (Cluster plan) = Some content.Cluster
content_in (Replaced meta) = Some content.Replaced
content_in (Clean plan) = Some content.Clean
content_in (Cleaned removed) = Some content.Cleaned
content_in (Rollback plan) = Some content.Rollback
content_in (RolledBack target) = Some content.RolledBack

-- a rollback of a deltacommit, without files, or of a replacecommit, without groups
abbrev pub IsOfKind : RollbackPlan → Action → Type 0
IsOfKind plan action.Delta = plan.files ≡ []
IsOfKind plan action.Replace = plan.groups ≡ []
IsOfKind plan _ = ⊥

pub record IsRollback (plan : RollbackPlan) : Type 0 where
  pub target : IsTime plan.target
  pub groups : AllByRecursion IsTarget plan.groups
  pub kind : IsOfKind plan plan.kind

-- Metadata that has a written form. Beside the form of partitions and the kind of a rollback these are bounds that
-- every value of its type keeps.
abbrev pub IsWritable : Meta → Type 0
IsWritable Empty = Unit {0}
IsWritable (Claims groups) = AllByRecursion IsTarget groups
IsWritable (Delta meta) = AllByRecursion (λ written. IsTarget written.0 × (written.1 < 2 ^ 32)) meta.groups
IsWritable (Compact plan) = AllByRecursion (λ p. IsGroup p.group) plan.groups
IsWritable (Bases meta) = AllByRecursion (λ b. IsGroup b.group) meta.bases
IsWritable (Cluster plan) = AllByRecursion (λ p. IsGroup p.group) plan.from × AllByRecursion IsGroup plan.to
IsWritable (Replaced meta) = AllByRecursion (λ b. IsGroup b.group) meta.bases × AllByRecursion IsGroup meta.replaced
IsWritable (Clean plan) = IsTime plan.earliest
IsWritable (Cleaned removed) = removed < 2 ^ 32
IsWritable (Rollback plan) = IsRollback plan
IsWritable (RolledBack target) = IsTime target

-- ---- readers

-- The reader answers what reading gives, unless memory has run out. `view` turns its value into the definition's.
abbrev pub Fails : {Y : Type 0} → MetaTextError → Result Y (List ℕ) → Type 0
Fails Memory told = Unit {0}
Fails (BadMeta field) told = told ≡ Err field

abbrev pub Answers : {X Y : Type 0} → (X → Y) → Result X MetaTextError → Result Y (List ℕ) → Type 0
Answers view (Ok x) told = told ≡ Ok (view x)
Answers view (Err error) told = Fails error told
