-- What is read has a written form, and is of its file's kind.
use Rattle.std.proofs.Common.{◌≡◌, ℕ, ◌<◌, ◌^◌, Bool, true, false, nat_lt, cond, List, [], ◌∷◌, Option, Some, None, option_map, Result, Ok, Err, refl, sym, subst, inl, inr}
use Rattle.std.specs.Prelude.{◌⊎◌, option_and_then, is_none, codes, IfOk}
use Rattle.std.specs.Option.{ok_or}
use Rattle.std.specs.List.{AllByRecursion}
use Rattle.std.specs.Str.{bytes_eq}
use Rattle.std.proofs.lemmas.Option.{cond_some}
use borrow.Author.Tests.{ltb-true}
use Rattle.hudi_base.specs.InstantTime.{IsTime, time_of}
use Rattle.hudi_base.specs.declared.file_group.GroupRef.{GroupRef}
use Rattle.hudi_base.specs.declared.file_group.Target.{Target}
use Rattle.hudi_base.proofs.TimeTexts.{time_text-time_of}
use Rattle.serde_json.specs.Data.{Data, Items, no_items, item}
use Rattle.serde_json.specs.Find.{get, as_str, as_array}
use Rattle.table_forms.specs.JsonObjects.{json_of, least_unknown}
use Rattle.file_names.specs.FileName.{IsGroup, action_name}
use Rattle.file_names.specs.GroupIds.{group_with_id}
use Rattle.file_names.proofs.GroupIdLemmas.{has_id}
use Rattle.file_names.specs.declared.file_name.Action.{Action}
use Rattle.file_names.specs.declared.file_name.Action.TheVariants as action
use Rattle.meta_parts.specs.Members.{text_in, number_in, number_32_in, time_in, kind_of_name, kind_in, or_null, all_of, list_in, at_member, only}
use Rattle.commit_meta.specs.Metadata.{◌>>=◌, required, with_unknown, claims_in, delta_in, compact_in, bases_in, cluster_in, replaced_in, clean_in, cleaned_in, files_for, groups_for, rollback_in, rolled_back_in, empty_in, object_in, members_in, read_object, read_as, known_members}
use Rattle.meta_parts.specs.Parts.{group_at, group_in, target_at, target_in, written_target_in, file_in, plan_group_in, base_in}
use Rattle.meta_parts.specs.Parts.{IsTarget}
use Rattle.commit_meta.specs.Texts.{Answers, content_in, IsOfKind, IsWritable}
use Rattle.commit_meta.specs.declared.content.Content.{Content}
use Rattle.commit_meta.specs.declared.content.Content.TheVariants as content
use Rattle.commit_meta.specs.declared.meta.Meta.{Meta}
use Rattle.commit_meta.specs.declared.meta.Meta.TheVariants.{Empty, Claims, Rollback}
use Rattle.meta_parts.specs.declared.parts.BaseMade.{BaseMade}
use Rattle.meta_parts.specs.declared.parts.PlanGroup.{PlanGroup}
use Rattle.commit_meta.specs.declared.meta.RollbackPlan.{RollbackPlan}
use Rattle.commit_meta.specs.declared.meta_error.MetaTextError.{MetaTextError}

-- ---- steps

some_bind : {A B : Type 0} (o : Option A) (f : A → Option B) (y : B) → option_and_then f o ≡ Some y → (x : A) × (o ≡ Some x) × (f x ≡ Some y)
some_bind None f y e = absurd cc
some_bind (Some x) f y e = (x, refl, e)

some_map : {A B : Type 0} (o : Option A) (f : A → B) (y : B) → option_map f o ≡ Some y → (x : A) × (o ≡ Some x) × (f x ≡ y)
some_map None f y e = absurd cc
some_map (Some x) f y e = (x, refl, cc)

ok_bind : {A B : Type 0} (r : Result A (List ℕ)) (f : A → Result B (List ℕ)) (y : B) → (r >>= f) ≡ Ok y → (x : A) × (r ≡ Ok x) × (f x ≡ Ok y)
ok_bind (Ok x) f y e = (x, refl, e)
ok_bind (Err field) f y e = absurd cc

ok_same : {A : Type 0} (x y : A) → ◌≡◌ {A = Result A (List ℕ)} (Ok x) (Ok y) → x ≡ y
ok_same x y e = cc

some_same : {A : Type 0} (x y : A) → Some x ≡ Some y → x ≡ y
some_same x y e = cc

ok_some : {A : Type 0} (o : Option A) (name : List ℕ) (x : A) → ok_or o name ≡ Ok x → o ≡ Some x
ok_some None name x e = absurd cc
ok_some (Some y) name x e = cc

-- the JSON value of a member that was read
read_from : {A : Type 0} (reads : Data → Option A) (name : List ℕ) (d : Data) (x : A) → at_member reads name d ≡ Some x → (v : Data) × (reads v ≡ Some x)
read_from reads name d x e = let told = some_bind (get name d) reads x e in (told.0, told.2)

given : {A : Type 0} (reads : Data → Option A) (name : List ℕ) (d : Data) (x : A) → required reads name d ≡ Ok x → (v : Data) × (reads v ≡ Some x)
given reads name d x e = read_from reads name d x (ok_some (at_member reads name d) name x e)

found_only : {A : Type 0} (known : List (List ℕ)) (d : Data) (found : Option A) (x : A) → only known d found ≡ Some x → found ≡ Some x
found_only known d found x e = by (is_none (least_unknown known d)) e
  where
    by : (b : Bool) → cond b found None ≡ Some x → found ≡ Some x
    by true e = e
    by false e = absurd cc

-- ---- values

all_given : {A : Type 0} (reads : Data → Option A) (P : A → Type 0) → ((d : Data) (x : A) → reads d ≡ Some x → P x) → (ds : Items) (xs : List A) → all_of reads ds ≡ Some xs → AllByRecursion P xs
all_given reads P each no_items xs e = let none = some_same [] xs e in subst (AllByRecursion P) none tt
all_given reads P each (item d ds) xs e =
    let first = some_bind (reads d) (λ x. option_map (λ xs. x ∷ xs) (all_of reads ds)) xs e in
    let rest = some_map (all_of reads ds) (λ ys. first.0 ∷ ys) xs first.2 in
    subst (AllByRecursion P) rest.2 (each d first.0 first.1, all_given reads P each ds rest.0 rest.1)

list_given : {A : Type 0} (reads : Data → Option A) (P : A → Type 0) → ((d : Data) (x : A) → reads d ≡ Some x → P x) → (d : Data) (xs : List A) → list_in reads d ≡ Some xs → AllByRecursion P xs
list_given reads P each d xs e = let items = some_bind (as_array d) (all_of reads) xs e in all_given reads P each items.0 xs items.2

time_given : (d : Data) (t : ℕ) → time_in d ≡ Some t → IsTime t
time_given d t e = let text = some_bind (as_str d) time_of t e in (time_text-time_of text.0 t text.2).0

small_given : (d : Data) (n : ℕ) → number_32_in d ≡ Some n → n < 2 ^ 32
small_given d n e =
    let number = some_bind (number_in d) (λ (k : ℕ). cond (nat_lt k (2 ^ 32)) (Some k) None) n e in
    let told = cond_some (nat_lt number.0 (2 ^ 32)) number.0 n number.2 in
    subst (λ (k : ℕ). k < 2 ^ 32) told.1 (ltb-true _ _ told.0)

-- ---- objects

group_at_given : (table : List ℕ) (d : Data) (g : GroupRef) → group_at table d ≡ Some g → IsGroup g
unfolding group_at
group_at_given table d g e =
    let partition = some_bind (at_member text_in (codes "partition") d) _ g e in
    let id = some_bind (at_member text_in (codes "file") d) (λ id. group_with_id table partition.0 id) g partition.2 in
    (has_id table partition.0 id.0 g id.2).0

group_given : (table : List ℕ) (d : Data) (g : GroupRef) → group_in table d ≡ Some g → IsGroup g
unfolding group_in
group_given table d g e = group_at_given table d g (found_only _ d (group_at table d) g e)

abbrev target_of : GroupRef → ℕ → Target
target_of group slice = record { group = group; slice = slice }

target_at_given : (table : List ℕ) (d : Data) (t : Target) → target_at table d ≡ Some t → IsTarget t
unfolding target_at
target_at_given table d t e =
    let group = some_bind (group_at table d) (λ group. option_and_then (λ slice. Some (target_of group slice)) (at_member time_in (codes "base") d)) t e in
    let slice = some_bind (at_member time_in (codes "base") d) (λ slice. Some (target_of group.0 slice)) t group.2 in
    let from = read_from time_in (codes "base") d slice.0 slice.1 in
    subst IsTarget (some_same (target_of group.0 slice.0) t slice.2) (record { group = group_at_given table d group.0 group.1; slice = time_given from.0 slice.0 from.1 })

target_given : (table : List ℕ) (d : Data) (t : Target) → target_in table d ≡ Some t → IsTarget t
unfolding target_in
target_given table d t e = target_at_given table d t (found_only _ d (target_at table d) t e)

abbrev IsWritten : Target × ℕ → Type 0
IsWritten written = IsTarget written.0 × (written.1 < 2 ^ 32)

abbrev written_of : Target → ℕ → Target × ℕ
written_of target writes = (target, writes)

written_target_given : (table : List ℕ) (d : Data) (w : Target × ℕ) → written_target_in table d ≡ Some w → IsWritten w
unfolding written_target_in
written_target_given table d w e =
    let found = found_only _ d _ w e in
    let target = some_bind (target_at table d) (λ target. option_and_then (λ writes. Some (written_of target writes)) (at_member number_32_in (codes "writes") d)) w found in
    let writes = some_bind (at_member number_32_in (codes "writes") d) (λ writes. Some (written_of target.0 writes)) w target.2 in
    let from = read_from number_32_in (codes "writes") d writes.0 writes.1 in
    subst IsWritten (some_same (written_of target.0 writes.0) w writes.2) (target_at_given table d target.0 target.1, small_given from.0 writes.0 from.1)

plan_group_given : (table : List ℕ) (d : Data) (p : PlanGroup) → plan_group_in table d ≡ Some p → IsGroup p.group
unfolding plan_group_in
plan_group_given table d p e =
    let found = found_only _ d _ p e in
    let group = some_bind (group_at table d) _ p found in
    let base = some_bind (at_member (or_null file_in) (codes "base") d) _ p group.2 in
    let logs = some_bind (at_member (list_in file_in) (codes "logs") d) _ p base.2 in
    let made : PlanGroup = record { group = group.0; base = base.0; logs = logs.0 } in
    subst (λ (q : PlanGroup). IsGroup q.group) (some_same made p logs.2) (group_at_given table d group.0 group.1)

base_given : (table : List ℕ) (d : Data) (b : BaseMade) → base_in table d ≡ Some b → IsGroup b.group
unfolding base_in
base_given table d b e =
    let found = found_only _ d _ b e in
    let group = some_bind (group_at table d) _ b found in
    let name = some_bind (at_member text_in (codes "name") d) _ b group.2 in
    let length = some_bind (at_member number_in (codes "length") d) _ b name.2 in
    let rows = some_bind (at_member number_in (codes "rows") d) _ b length.2 in
    let made : BaseMade = record { group = group.0; name = name.0; length = length.0; rows = rows.0 } in
    subst (λ (q : BaseMade). IsGroup q.group) (some_same made b rows.2) (group_at_given table d group.0 group.1)

-- ---- the kind of a rollback

abbrev IsKind : Action → Type 0
IsKind kind = (kind ≡ action.Delta) ⊎ (kind ≡ action.Replace)

kind_given : (d : Data) (kind : Action) → kind_in d ≡ Some kind → IsKind kind
kind_given d kind e =
    let text = some_bind (text_in d) kind_of_name kind e in
    by (bytes_eq text.0 (action_name action.Delta)) (bytes_eq text.0 (action_name action.Replace)) text.2
  where
    by : (delta replace : Bool) → cond delta (Some action.Delta) (cond replace (Some action.Replace) None) ≡ Some kind → IsKind kind
    by true replace e = inl cc
    by false true e = inr cc
    by false false e = absurd cc

no_files : (listed files : List (List ℕ)) → files_for (Some action.Delta) listed ≡ Ok files → files ≡ []
no_files [] files e = sym (ok_same [] files e)
no_files (file ∷ listed) files e = absurd cc

no_groups : (listed groups : List Target) → groups_for (Some action.Replace) listed ≡ Ok groups → groups ≡ []
no_groups [] groups e = sym (ok_same [] groups e)
no_groups (group ∷ listed) groups e = absurd cc

kept_groups : (kind : Action) (listed groups : List Target) → IsKind kind → groups_for (Some kind) listed ≡ Ok groups → AllByRecursion IsTarget listed → AllByRecursion IsTarget groups
kept_groups action.Delta listed groups is e all = subst (AllByRecursion IsTarget) (ok_same listed groups e) all
kept_groups action.Replace listed groups is e all = subst (AllByRecursion IsTarget) (sym (no_groups listed groups e)) tt
kept_groups action.Compaction listed groups is e all = elim is [ inl d ↦ absurd cc | inr r ↦ absurd cc ]
kept_groups action.Clean listed groups is e all = elim is [ inl d ↦ absurd cc | inr r ↦ absurd cc ]
kept_groups action.Rollback listed groups is e all = elim is [ inl d ↦ absurd cc | inr r ↦ absurd cc ]

of_kind : (plan : RollbackPlan) (kind : Action) (listed : List (List ℕ)) (claims : List Target) → IsKind kind → files_for (Some kind) listed ≡ Ok plan.files → groups_for (Some kind) claims ≡ Ok plan.groups
    → IsOfKind plan kind
of_kind plan action.Delta listed claims is files groups = no_files listed plan.files files
of_kind plan action.Replace listed claims is files groups = no_groups claims plan.groups groups
of_kind plan action.Compaction listed claims is files groups = elim is [ inl d ↦ absurd cc | inr r ↦ absurd cc ]
of_kind plan action.Clean listed claims is files groups = elim is [ inl d ↦ absurd cc | inr r ↦ absurd cc ]
of_kind plan action.Rollback listed claims is files groups = elim is [ inl d ↦ absurd cc | inr r ↦ absurd cc ]

-- ---- files

-- the metadata has a written form, and is of the content
abbrev Keeps : Option Content → Meta → Type 0
Keeps c meta = IsWritable meta × (c ≡ content_in meta)

module _ (table : List ℕ) (d : Data) (meta : Meta) where
  claims_kept : claims_in table d ≡ Ok meta → Keeps (Some content.Claims) meta
  unfolding claims_in
  claims_kept e =
      let groups = ok_bind (required (list_in (target_in table)) (codes "groups") d) _ meta e in
      let from = given (list_in (target_in table)) (codes "groups") d groups.0 groups.1 in
      subst (Keeps (Some content.Claims)) (ok_same (Claims groups.0) meta groups.2)
      (list_given (target_in table) IsTarget (target_given table) from.0 groups.0 from.1, refl)

  delta_kept : delta_in table d ≡ Ok meta → Keeps (Some content.Delta) meta
  unfolding delta_in
  delta_kept e =
      let checkpoint = ok_bind (required (or_null number_in) (codes "checkpoint") d) _ meta e in
      let groups = ok_bind (required (list_in (written_target_in table)) (codes "groups") d) _ meta checkpoint.2 in
      let from = given (list_in (written_target_in table)) (codes "groups") d groups.0 groups.1 in
      subst (Keeps (Some content.Delta)) (ok_same _ meta groups.2)
      (list_given (written_target_in table) IsWritten (written_target_given table) from.0 groups.0 from.1, refl)

  compact_kept : compact_in table d ≡ Ok meta → Keeps (Some content.Compact) meta
  unfolding compact_in
  compact_kept e =
      let groups = ok_bind (required (list_in (plan_group_in table)) (codes "groups") d) _ meta e in
      let from = given (list_in (plan_group_in table)) (codes "groups") d groups.0 groups.1 in
      subst (Keeps (Some content.Compact)) (ok_same _ meta groups.2)
      (list_given (plan_group_in table) (λ p. IsGroup p.group) (plan_group_given table) from.0 groups.0 from.1, refl)

  bases_kept : bases_in table d ≡ Ok meta → Keeps (Some content.Bases) meta
  unfolding bases_in
  bases_kept e =
      let bases = ok_bind (required (list_in (base_in table)) (codes "bases") d) _ meta e in
      let from = given (list_in (base_in table)) (codes "bases") d bases.0 bases.1 in
      subst (Keeps (Some content.Bases)) (ok_same _ meta bases.2)
      (list_given (base_in table) (λ b. IsGroup b.group) (base_given table) from.0 bases.0 from.1, refl)

  cluster_kept : cluster_in table d ≡ Ok meta → Keeps (Some content.Cluster) meta
  unfolding cluster_in
  cluster_kept e =
      let from = ok_bind (required (list_in (plan_group_in table)) (codes "from") d) _ meta e in
      let order = ok_bind (required (or_null text_in) (codes "order") d) _ meta from.2 in
      let to = ok_bind (required (list_in (group_in table)) (codes "to") d) _ meta order.2 in
      let old = given (list_in (plan_group_in table)) (codes "from") d from.0 from.1 in
      let new = given (list_in (group_in table)) (codes "to") d to.0 to.1 in
      subst (Keeps (Some content.Cluster)) (ok_same _ meta to.2)
      ((list_given (plan_group_in table) (λ p. IsGroup p.group) (plan_group_given table) old.0 from.0 old.1, list_given (group_in table) IsGroup (group_given table) new.0 to.0 new.1), refl)

  replaced_kept : replaced_in table d ≡ Ok meta → Keeps (Some content.Replaced) meta
  unfolding replaced_in
  replaced_kept e =
      let bases = ok_bind (required (list_in (base_in table)) (codes "bases") d) _ meta e in
      let replaced = ok_bind (required (list_in (group_in table)) (codes "replaced") d) _ meta bases.2 in
      let new = given (list_in (base_in table)) (codes "bases") d bases.0 bases.1 in
      let old = given (list_in (group_in table)) (codes "replaced") d replaced.0 replaced.1 in
      subst (Keeps (Some content.Replaced)) (ok_same _ meta replaced.2)
      ((list_given (base_in table) (λ b. IsGroup b.group) (base_given table) new.0 bases.0 new.1, list_given (group_in table) IsGroup (group_given table) old.0 replaced.0 old.1), refl)

  clean_kept : clean_in d ≡ Ok meta → Keeps (Some content.Clean) meta
  unfolding clean_in
  clean_kept e =
      let earliest = ok_bind (required time_in (codes "earliest") d) _ meta e in
      let files = ok_bind (required (list_in text_in) (codes "files") d) _ meta earliest.2 in
      let from = given time_in (codes "earliest") d earliest.0 earliest.1 in
      subst (Keeps (Some content.Clean)) (ok_same _ meta files.2) (time_given from.0 earliest.0 from.1, refl)

  cleaned_kept : cleaned_in d ≡ Ok meta → Keeps (Some content.Cleaned) meta
  unfolding cleaned_in
  cleaned_kept e =
      let removed = ok_bind (required number_32_in (codes "removed") d) _ meta e in
      let from = given number_32_in (codes "removed") d removed.0 removed.1 in
      subst (Keeps (Some content.Cleaned)) (ok_same _ meta removed.2) (small_given from.0 removed.0 from.1, refl)

  rollback_kept : rollback_in table d ≡ Ok meta → Keeps (Some content.Rollback) meta
  unfolding rollback_in
  rollback_kept e =
      let files = ok_bind (required (list_in text_in) (codes "files") d >>= files_for (at_member kind_in (codes "kind") d)) _ meta e in
      let groups = ok_bind (required (list_in (target_in table)) (codes "groups") d >>= groups_for (at_member kind_in (codes "kind") d)) _ meta files.2 in
      let kind = ok_bind (required kind_in (codes "kind") d) _ meta groups.2 in
      let target = ok_bind (required time_in (codes "target") d) _ meta kind.2 in
      let told : at_member kind_in (codes "kind") d ≡ Some kind.0 = ok_some (at_member kind_in (codes "kind") d) (codes "kind") kind.0 kind.1 in
      let kind_from = read_from kind_in (codes "kind") d kind.0 told in
      let is = kind_given kind_from.0 kind.0 kind_from.1 in
      let listed = ok_bind (required (list_in text_in) (codes "files") d) (files_for (at_member kind_in (codes "kind") d)) files.0 files.1 in
      let claims = ok_bind (required (list_in (target_in table)) (codes "groups") d) (groups_for (at_member kind_in (codes "kind") d)) groups.0 groups.1 in
      let files_kept : files_for (Some kind.0) listed.0 ≡ Ok files.0 = subst (λ (k : Option Action). files_for k listed.0 ≡ Ok files.0) told listed.2 in
      let groups_kept : groups_for (Some kind.0) claims.0 ≡ Ok groups.0 = subst (λ (k : Option Action). groups_for k claims.0 ≡ Ok groups.0) told claims.2 in
      let claims_from = given (list_in (target_in table)) (codes "groups") d claims.0 claims.1 in
      let all = list_given (target_in table) IsTarget (target_given table) claims_from.0 claims.0 claims_from.1 in
      let time_from = given time_in (codes "target") d target.0 target.1 in
      let plan : RollbackPlan = record { target = target.0; kind = kind.0; groups = groups.0; files = files.0 } in
      subst (Keeps (Some content.Rollback)) (ok_same (Rollback plan) meta target.2) (
        record {
          target = time_given time_from.0 target.0 time_from.1;
          groups = kept_groups kind.0 claims.0 groups.0 is groups_kept all;
          kind = of_kind plan kind.0 listed.0 claims.0 is files_kept groups_kept;
        },
        refl,
      )

  rolled_back_kept : rolled_back_in d ≡ Ok meta → Keeps (Some content.RolledBack) meta
  unfolding rolled_back_in
  rolled_back_kept e =
      let target = ok_bind (required time_in (codes "target") d) _ meta e in
      let from = given time_in (codes "target") d target.0 target.1 in
      subst (Keeps (Some content.RolledBack)) (ok_same _ meta target.2) (time_given from.0 target.0 from.1, refl)

  members_kept : (c : Content) → members_in table c d ≡ Ok meta → Keeps (Some c) meta
  members_kept content.Claims e = claims_kept e
  members_kept content.Delta e = delta_kept e
  members_kept content.Compact e = compact_kept e
  members_kept content.Bases e = bases_kept e
  members_kept content.Cluster e = cluster_kept e
  members_kept content.Replaced e = replaced_kept e
  members_kept content.Clean e = clean_kept e
  members_kept content.Cleaned e = cleaned_kept e
  members_kept content.Rollback e = rollback_kept e
  members_kept content.RolledBack e = rolled_back_kept e

without_unknown : {A : Type 0} (unknown : Option (List ℕ)) (read : Result A (List ℕ)) (x : A) → with_unknown unknown read ≡ Ok x → read ≡ Ok x
without_unknown None read x e = e
without_unknown (Some name) (Ok y) x e = absurd cc
without_unknown (Some name) (Err field) x e = absurd cc

empty_kept : (bytes : List ℕ) (meta : Meta) → empty_in bytes ≡ Ok meta → Keeps None meta
empty_kept [] meta e = subst (Keeps None) (ok_same Empty meta e) (tt, refl)
empty_kept (byte ∷ bytes) meta e = absurd cc

-- what is read of a file has a written form, and is what the file holds
pub what_is_read : (table : List ℕ) (c : Option Content) (bytes : List ℕ) (meta : Meta) → read_as table c bytes ≡ Ok meta → IsWritable meta × (c ≡ content_in meta)
unfolding read_as read_object
what_is_read table None bytes meta e = empty_kept bytes meta e
what_is_read table (Some c) bytes meta e =
    let d = ok_bind (object_in (json_of bytes)) (read_object table c) meta e in
    members_kept table d.0 meta c (without_unknown (least_unknown (known_members c) d.0) (members_in table c d.0) meta d.2)

-- and so a reader's answer
pub writable : (table : List ℕ) (c : Option Content) (bytes : List ℕ) (read : Result Meta MetaTextError) → Answers (λ meta. meta) read (read_as table c bytes)
    → IfOk read (λ meta. IsWritable meta × (c ≡ content_in meta))
writable table c bytes (Ok meta) told = what_is_read table c bytes meta told
writable table c bytes (Err error) told = tt
