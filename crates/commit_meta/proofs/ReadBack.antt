-- What is written is read again: the objects of metadata, and the bytes of files.
use Rattle.std.proofs.Common.{◌≡◌, ℕ, ◌<◌, ◌≤◌, ◌^◌, true, false, nat_lt, List, [], map, is_some, Option, Some, None, Ok, refl, sym, ap, subst, ◌∙◌, arith}
use Rattle.std.specs.List.{AllByRecursion}
use Rattle.std.proofs.lemmas.Bool.Decides.{nat_tests}
use Rattle.hudi_base.specs.InstantTime.{IsTime}
use Rattle.hudi_base.specs.declared.file_group.GroupRef.{GroupRef}
use Rattle.hudi_base.specs.declared.file_group.Target.{Target}
use Rattle.hudi_base.proofs.TimeTexts.{time_of-time_text}
use Rattle.serde_json.specs.Data.{depth, items_depth}
use Rattle.serde_json.specs.View.{items_of}
use Rattle.serde_json.specs.Written.{compact_text, has_float, items_have_float}
use Rattle.table_forms.specs.JsonObjects.{json_of, least_unknown}
use Rattle.file_names.specs.FileName.{IsGroup}
use Rattle.file_names.specs.declared.file_name.Action.{Action}
use Rattle.file_names.specs.declared.file_name.Action.TheVariants as action
use Rattle.meta_parts.specs.Members.{text_in, all_of}
use Rattle.commit_meta.specs.Metadata.{claims_in, delta_in, compact_in, bases_in, cluster_in, replaced_in, clean_in, cleaned_in, rollback_in, rolled_back_in, read_object, read_as, object_in, ◌>>=◌}
use Rattle.meta_parts.specs.Parts.{group_in, target_in, written_target_in, plan_group_in, base_in, text_json, group_json, target_json, written_target_json, plan_group_json, base_json}
use Rattle.meta_parts.specs.Parts.{IsTarget}
use Rattle.commit_meta.specs.Texts.{meta_json, meta_bytes, content_in, IsOfKind, IsWritable}
use Rattle.commit_meta.specs.declared.content.Content.{Content}
use Rattle.commit_meta.specs.declared.content.Content.TheVariants as content
use Rattle.commit_meta.specs.declared.meta.Meta.{Meta}
use Rattle.commit_meta.specs.declared.meta.Meta.TheVariants.{Empty, Claims, Delta, Compact, Bases, Cluster, Replaced, Clean, Cleaned, Rollback, RolledBack}
use Rattle.meta_parts.specs.declared.parts.BaseMade.{BaseMade}
use Rattle.commit_meta.specs.declared.meta.BasesMeta.{BasesMeta}
use Rattle.commit_meta.specs.declared.meta.CleanPlan.{CleanPlan}
use Rattle.commit_meta.specs.declared.meta.ClusterPlan.{ClusterPlan}
use Rattle.commit_meta.specs.declared.meta.CompactPlan.{CompactPlan}
use Rattle.commit_meta.specs.declared.meta.DeltaMeta.{DeltaMeta}
use Rattle.meta_parts.specs.declared.parts.PlanGroup.{PlanGroup}
use Rattle.commit_meta.specs.declared.meta.ReplacedMeta.{ReplacedMeta}
use Rattle.commit_meta.specs.declared.meta.RollbackPlan.{RollbackPlan}
use Rattle.meta_parts.proofs.PartsBack as parts
use Rattle.meta_parts.proofs.PartsBack.{list_depth, list_no_float}

texts_back : (texts : List (List ℕ)) → all_of text_in (items_of (map text_json texts)) ≡ Some texts
texts_back texts = parts.any_back text_in text_json (λ text. refl) texts

module _ (table : List ℕ) where
  targets_back : (groups : List Target) → AllByRecursion IsTarget groups → all_of (target_in table) (items_of (map (target_json table) groups)) ≡ Some groups
  targets_back = parts.all_back (target_in table) (target_json table) IsTarget (parts.target_back table)

  plans_back : (plans : List PlanGroup) → AllByRecursion (λ p. IsGroup p.group) plans → all_of (plan_group_in table) (items_of (map (plan_group_json table) plans)) ≡ Some plans
  plans_back = parts.all_back (plan_group_in table) (plan_group_json table) (λ p. IsGroup p.group) (parts.plan_group_back table)

  bases_back : (bases : List BaseMade) → AllByRecursion (λ b. IsGroup b.group) bases → all_of (base_in table) (items_of (map (base_json table) bases)) ≡ Some bases
  bases_back = parts.all_back (base_in table) (base_json table) (λ b. IsGroup b.group) (parts.base_back table)

  groups_back : (groups : List GroupRef) → AllByRecursion IsGroup groups → all_of (group_in table) (items_of (map (group_json table) groups)) ≡ Some groups
  groups_back = parts.all_back (group_in table) (group_json table) IsGroup (parts.group_back table)

  -- ---- objects

  claims_again : (groups : List Target) → AllByRecursion IsTarget groups → read_object table content.Claims (meta_json table (Claims groups)) ≡ Ok (Claims groups)
  unfolding read_object claims_in least_unknown
  claims_again groups all = rw (targets_back groups all) refl

  delta_again : (meta : DeltaMeta) → IsWritable (Delta meta) → read_object table content.Delta (meta_json table (Delta meta)) ≡ Ok (Delta meta)
  unfolding read_object delta_in least_unknown
  delta_again meta all =
      rw (parts.checkpoint_back meta.checkpoint, parts.all_back (written_target_in table) (written_target_json table) _ (parts.written_target_back table) meta.groups all) refl

  compact_again : (plan : CompactPlan) → IsWritable (Compact plan) → read_object table content.Compact (meta_json table (Compact plan)) ≡ Ok (Compact plan)
  unfolding read_object compact_in least_unknown
  compact_again plan all = rw (plans_back plan.groups all) refl

  bases_again : (meta : BasesMeta) → IsWritable (Bases meta) → read_object table content.Bases (meta_json table (Bases meta)) ≡ Ok (Bases meta)
  unfolding read_object bases_in least_unknown
  bases_again meta all = rw (bases_back meta.bases all) refl

  cluster_again : (plan : ClusterPlan) → IsWritable (Cluster plan) → read_object table content.Cluster (meta_json table (Cluster plan)) ≡ Ok (Cluster plan)
  unfolding read_object cluster_in least_unknown
  cluster_again plan all = rw (plans_back plan.from all.0, parts.order_back plan.order, groups_back plan.to all.1) refl

  replaced_again : (meta : ReplacedMeta) → IsWritable (Replaced meta) → read_object table content.Replaced (meta_json table (Replaced meta)) ≡ Ok (Replaced meta)
  unfolding read_object replaced_in least_unknown
  replaced_again meta all = rw (bases_back meta.bases all.0, groups_back meta.replaced all.1) refl

  clean_again : (plan : CleanPlan) → IsTime plan.earliest → read_object table content.Clean (meta_json table (Clean plan)) ≡ Ok (Clean plan)
  unfolding read_object clean_in least_unknown
  clean_again plan is = rw (time_of-time_text plan.earliest is, texts_back plan.files) refl

  cleaned_again : (removed : ℕ) → removed < 2 ^ 32 → read_object table content.Cleaned (meta_json table (Cleaned removed)) ≡ Ok (Cleaned removed)
  unfolding read_object cleaned_in least_unknown
  cleaned_again removed small = let passes : nat_lt removed (2 ^ 32) ≡ true = grind (arith, nat_tests) in rw passes refl

  rolled_back_again : (target : ℕ) → IsTime target → read_object table content.RolledBack (meta_json table (RolledBack target)) ≡ Ok (RolledBack target)
  unfolding read_object rolled_back_in least_unknown
  rolled_back_again target is = rw (time_of-time_text target is) refl

  -- ---- rollbacks

  abbrev plan_of : ℕ → Action → List Target → List (List ℕ) → RollbackPlan
  plan_of target kind groups files = record { target = target; kind = kind; groups = groups; files = files }

  abbrev ReadAgain : RollbackPlan → Type 0
  ReadAgain plan = read_object table content.Rollback (meta_json table (Rollback plan)) ≡ Ok (Rollback plan)

  of_deltacommit : (target : ℕ) (groups : List Target) → IsTime target → AllByRecursion IsTarget groups → ReadAgain (plan_of target action.Delta groups [])
  unfolding read_object rollback_in least_unknown
  of_deltacommit target groups is all = rw (targets_back groups all, time_of-time_text target is) refl

  of_replacecommit : (target : ℕ) (files : List (List ℕ)) → IsTime target → ReadAgain (plan_of target action.Replace [] files)
  unfolding read_object rollback_in least_unknown
  of_replacecommit target files is = rw (texts_back files, time_of-time_text target is) refl

  rollback_again : (target : ℕ) (kind : Action) (groups : List Target) (files : List (List ℕ)) → IsTime target → AllByRecursion IsTarget groups
      → IsOfKind (plan_of target kind groups files) kind → ReadAgain (plan_of target kind groups files)
  rollback_again target action.Delta groups files is all none =
      subst (λ (fs : List (List ℕ)). ReadAgain (plan_of target action.Delta groups fs)) (sym none) (of_deltacommit target groups is all)
  rollback_again target action.Replace groups files is all none =
      subst (λ (gs : List Target). ReadAgain (plan_of target action.Replace gs files)) (sym none) (of_replacecommit target files is)
  rollback_again target action.Compaction groups files is all none = absurd none
  rollback_again target action.Clean groups files is all none = absurd none
  rollback_again target action.Rollback groups files is all none = absurd none

  -- ---- bytes

  -- the object that bytes are gives the metadata that it was written from
  pub read_again : (meta : Meta) (bytes : List ℕ) → is_some (content_in meta) ≡ true → IsWritable meta → json_of bytes ≡ Some (meta_json table meta)
      → read_as table (content_in meta) bytes ≡ Ok meta
  unfolding read_as
  read_again Empty bytes some is e = absurd cc
  read_again (Claims groups) bytes some is e = ap (λ o. object_in o >>= read_object table content.Claims) e ∙ claims_again groups is
  read_again (Delta meta) bytes some is e = ap (λ o. object_in o >>= read_object table content.Delta) e ∙ delta_again meta is
  read_again (Compact plan) bytes some is e = ap (λ o. object_in o >>= read_object table content.Compact) e ∙ compact_again plan is
  read_again (Bases meta) bytes some is e = ap (λ o. object_in o >>= read_object table content.Bases) e ∙ bases_again meta is
  read_again (Cluster plan) bytes some is e = ap (λ o. object_in o >>= read_object table content.Cluster) e ∙ cluster_again plan is
  read_again (Replaced meta) bytes some is e = ap (λ o. object_in o >>= read_object table content.Replaced) e ∙ replaced_again meta is
  read_again (Clean plan) bytes some is e = ap (λ o. object_in o >>= read_object table content.Clean) e ∙ clean_again plan is
  read_again (Cleaned removed) bytes some is e = ap (λ o. object_in o >>= read_object table content.Cleaned) e ∙ cleaned_again removed is
  read_again (Rollback plan) bytes some is e =
      ap (λ o. object_in o >>= read_object table content.Rollback) e ∙ rollback_again plan.target plan.kind plan.groups plan.files is.target is.groups is.kind
  read_again (RolledBack target) bytes some is e = ap (λ o. object_in o >>= read_object table content.RolledBack) e ∙ rolled_back_again target is

  pub empty_again : (meta : Meta) (bytes : List ℕ) (content : Option Content) → meta ≡ Empty → bytes ≡ [] → content ≡ content_in meta → read_as table content bytes ≡ Ok meta
  unfolding read_as
  empty_again meta bytes content is none e = ap (λ c. read_as table c bytes) (e ∙ ap content_in is) ∙ ap (read_as table None) none ∙ ap Ok (sym is)

  pub filled_bytes : (meta : Meta) → (meta ≡ Empty → ⊥) → compact_text (meta_json table meta) ≡ meta_bytes table meta
  unfolding meta_bytes
  filled_bytes Empty filled = absurd (filled refl)
  filled_bytes (Claims groups) filled = refl
  filled_bytes (Delta meta) filled = refl
  filled_bytes (Compact plan) filled = refl
  filled_bytes (Bases meta) filled = refl
  filled_bytes (Cluster plan) filled = refl
  filled_bytes (Replaced meta) filled = refl
  filled_bytes (Clean plan) filled = refl
  filled_bytes (Cleaned removed) filled = refl
  filled_bytes (Rollback plan) filled = refl
  filled_bytes (RolledBack target) filled = refl

  pub filled_content : (meta : Meta) → (meta ≡ Empty → ⊥) → is_some (content_in meta) ≡ true
  filled_content Empty filled = absurd (filled refl)
  filled_content (Claims groups) filled = refl
  filled_content (Delta meta) filled = refl
  filled_content (Compact plan) filled = refl
  filled_content (Bases meta) filled = refl
  filled_content (Cluster plan) filled = refl
  filled_content (Replaced meta) filled = refl
  filled_content (Clean plan) filled = refl
  filled_content (Cleaned removed) filled = refl
  filled_content (Rollback plan) filled = refl
  filled_content (RolledBack target) filled = refl

  -- ---- depth, and no floats

  targets_depth : (groups : List Target) → items_depth (items_of (map (target_json table) groups)) ≤ 1
  targets_depth = list_depth (target_json table) 1 (λ target. omega arith)

  plans_depth : (plans : List PlanGroup) → items_depth (items_of (map (plan_group_json table) plans)) ≤ 3
  plans_depth = list_depth (plan_group_json table) 3 (parts.plan_group_depth table)

  bases_depth : (bases : List BaseMade) → items_depth (items_of (map (base_json table) bases)) ≤ 1
  bases_depth = list_depth (base_json table) 1 (λ base. omega arith)

  groups_depth : (groups : List GroupRef) → items_depth (items_of (map (group_json table) groups)) ≤ 1
  groups_depth = list_depth (group_json table) 1 (λ group. omega arith)

  texts_depth : (texts : List (List ℕ)) → items_depth (items_of (map text_json texts)) ≤ 0
  texts_depth = list_depth text_json 0 (λ text. omega arith)

  pub meta_depth : (meta : Meta) → depth (meta_json table meta) ≤ 127
  meta_depth Empty = omega arith
  meta_depth (Claims groups) = omega (arith, targets_depth groups)
  meta_depth (Delta meta) = omega (arith, parts.checkpoint_depth meta.checkpoint, list_depth (written_target_json table) 1 (λ written. omega arith) meta.groups)
  meta_depth (Compact plan) = omega (arith, plans_depth plan.groups)
  meta_depth (Bases meta) = omega (arith, bases_depth meta.bases)
  meta_depth (Cluster plan) = omega (arith, plans_depth plan.from, parts.order_depth plan.order, groups_depth plan.to)
  meta_depth (Replaced meta) = omega (arith, bases_depth meta.bases, groups_depth meta.replaced)
  meta_depth (Clean plan) = omega (arith, texts_depth plan.files)
  meta_depth (Cleaned removed) = omega arith
  meta_depth (Rollback plan) = omega (arith, texts_depth plan.files, targets_depth plan.groups)
  meta_depth (RolledBack target) = omega arith

  targets_no_float : (groups : List Target) → items_have_float (items_of (map (target_json table) groups)) ≡ false
  targets_no_float = list_no_float (target_json table) (λ target. refl)

  plans_no_float : (plans : List PlanGroup) → items_have_float (items_of (map (plan_group_json table) plans)) ≡ false
  plans_no_float = list_no_float (plan_group_json table) (parts.plan_group_no_float table)

  bases_no_float : (bases : List BaseMade) → items_have_float (items_of (map (base_json table) bases)) ≡ false
  bases_no_float = list_no_float (base_json table) (λ base. refl)

  groups_no_float : (groups : List GroupRef) → items_have_float (items_of (map (group_json table) groups)) ≡ false
  groups_no_float = list_no_float (group_json table) (λ group. refl)

  texts_no_float : (texts : List (List ℕ)) → items_have_float (items_of (map text_json texts)) ≡ false
  texts_no_float = list_no_float text_json (λ text. refl)

  pub meta_no_float : (meta : Meta) → has_float (meta_json table meta) ≡ false
  meta_no_float Empty = refl
  meta_no_float (Claims groups) = rw (targets_no_float groups) refl
  meta_no_float (Delta meta) = rw (parts.checkpoint_no_float meta.checkpoint, list_no_float (written_target_json table) (λ written. refl) meta.groups) refl
  meta_no_float (Compact plan) = rw (plans_no_float plan.groups) refl
  meta_no_float (Bases meta) = rw (bases_no_float meta.bases) refl
  meta_no_float (Cluster plan) = rw (plans_no_float plan.from, parts.order_no_float plan.order, groups_no_float plan.to) refl
  meta_no_float (Replaced meta) = rw (bases_no_float meta.bases, groups_no_float meta.replaced) refl
  meta_no_float (Clean plan) = rw (texts_no_float plan.files) refl
  meta_no_float (Cleaned removed) = refl
  meta_no_float (Rollback plan) = rw (texts_no_float plan.files, targets_no_float plan.groups) refl
  meta_no_float (RolledBack target) = refl
