-- What is written is read again: values and the objects inside metadata. How deep their JSON nests, and that it has no
-- float.
use Rattle.std.proofs.Common.{◌≡◌, ℕ, ◌<◌, ◌≤◌, ◌^◌, true, false, nat_lt, List, [], ◌∷◌, map, Option, Some, None, option_map, refl, ap, arith}
use Rattle.std.specs.List.{AllByRecursion}
use Rattle.std.proofs.lemmas.Bool.Decides.{nat_tests}
use Rattle.hudi_base.specs.InstantTime.{IsTime}
use Rattle.hudi_base.specs.declared.file_group.GroupRef.{GroupRef}
use Rattle.hudi_base.specs.declared.file_group.Target.{Target}
use Rattle.hudi_base.proofs.TimeTexts.{time_of-time_text}
use Rattle.serde_json.specs.Data.{Data, depth, items_depth}
use Rattle.serde_json.specs.View.{items_of}
use Rattle.serde_json.specs.Written.{has_float, items_have_float}
use Rattle.table_forms.specs.JsonObjects.{least_unknown}
use Rattle.file_names.specs.FileName.{IsGroup}
use Rattle.file_names.proofs.GroupIdLemmas.{group_with_id-file_id}
use Rattle.meta_parts.specs.Members.{text_in, number_in, number_32_in, time_in, or_null, all_of}
use Rattle.meta_parts.specs.Parts.{group_at, group_in, target_at, target_in, written_target_in, file_in, plan_group_in, base_in, text_json, number_json, time_json, null_or, group_json, target_json, written_target_json, file_json, plan_group_json, base_json}
use Rattle.meta_parts.specs.Parts.{IsTarget}
use Rattle.meta_parts.specs.declared.parts.NamedFile.{NamedFile}
use Rattle.meta_parts.specs.declared.parts.PlanGroup.{PlanGroup}
use Rattle.meta_parts.specs.declared.parts.BaseMade.{BaseMade}

-- ---- lists

module _ {A : Type 0} (reads : Data → Option A) (writes : A → Data) where
  pub all_back : (P : A → Type 0) → ((x : A) → P x → reads (writes x) ≡ Some x) → (xs : List A) → AllByRecursion P xs → all_of reads (items_of (map writes xs)) ≡ Some xs
  all_back P back [] all = refl
  all_back P back (x ∷ xs) all = rw (back x all.0, all_back P back xs all.1) refl

  -- of values of which nothing has to be known
  pub any_back : ((x : A) → reads (writes x) ≡ Some x) → (xs : List A) → all_of reads (items_of (map writes xs)) ≡ Some xs
  any_back back [] = refl
  any_back back (x ∷ xs) = rw (back x, any_back back xs) refl

pub list_depth : {A : Type 0} (writes : A → Data) (n : ℕ) → ((x : A) → depth (writes x) ≤ n) → (xs : List A) → items_depth (items_of (map writes xs)) ≤ n
list_depth writes n each [] = omega arith
list_depth writes n each (x ∷ xs) = omega (arith, each x, list_depth writes n each xs)

pub list_no_float : {A : Type 0} (writes : A → Data) → ((x : A) → has_float (writes x) ≡ false) → (xs : List A) → items_have_float (items_of (map writes xs)) ≡ false
list_no_float writes none [] = refl
list_no_float writes none (x ∷ xs) = rw (none x, list_no_float writes none xs) refl

-- ---- values

pub number_32_back : (n : ℕ) → n < 2 ^ 32 → number_32_in (number_json n) ≡ Some n
number_32_back n small = let passes : nat_lt n (2 ^ 32) ≡ true = grind (arith, nat_tests) in rw passes refl

pub time_back : (t : ℕ) → IsTime t → time_in (time_json t) ≡ Some t
time_back t is_time = time_of-time_text t is_time

pub checkpoint_back : (c : Option ℕ) → or_null number_in (null_or number_json c) ≡ Some c
checkpoint_back None = refl
checkpoint_back (Some n) = refl

pub order_back : (o : Option (List ℕ)) → or_null text_in (null_or text_json o) ≡ Some o
order_back None = refl
order_back (Some text) = refl

pub checkpoint_depth : (c : Option ℕ) → depth (null_or number_json c) ≡ 0
checkpoint_depth None = refl
checkpoint_depth (Some n) = refl

pub order_depth : (o : Option (List ℕ)) → depth (null_or text_json o) ≡ 0
order_depth None = refl
order_depth (Some text) = refl

pub checkpoint_no_float : (c : Option ℕ) → has_float (null_or number_json c) ≡ false
checkpoint_no_float None = refl
checkpoint_no_float (Some n) = refl

pub order_no_float : (o : Option (List ℕ)) → has_float (null_or text_json o) ≡ false
order_no_float None = refl
order_no_float (Some text) = refl

-- ---- objects

pub group_back : (table : List ℕ) (group : GroupRef) → IsGroup group → group_in table (group_json table group) ≡ Some group
unfolding group_in group_at least_unknown
group_back table group is = group_with_id-file_id table group is

pub target_back : (table : List ℕ) (target : Target) → IsTarget target → target_in table (target_json table target) ≡ Some target
unfolding target_in target_at group_at least_unknown
target_back table target is = rw (group_with_id-file_id table target.group is.group, time_of-time_text target.slice is.slice) refl

pub written_target_back : (table : List ℕ) (written : Target × ℕ) → IsTarget written.0 × (written.1 < 2 ^ 32) → written_target_in table (written_target_json table written) ≡ Some written
unfolding written_target_in target_at group_at least_unknown
written_target_back table written is =
    let passes : nat_lt written.1 (2 ^ 32) ≡ true = grind (arith, nat_tests, is.1) in
    rw (group_with_id-file_id table written.0.group is.0.group, time_of-time_text written.0.slice is.0.slice, passes) refl

pub file_back : (file : NamedFile) → file_in (file_json file) ≡ Some file
unfolding file_in least_unknown
file_back file = refl

base_or_null : (base : Option NamedFile) → or_null file_in (null_or file_json base) ≡ Some base
base_or_null None = refl
base_or_null (Some file) = ap (option_map Some) (file_back file)

pub plan_group_back : (table : List ℕ) (plan : PlanGroup) → IsGroup plan.group → plan_group_in table (plan_group_json table plan) ≡ Some plan
unfolding plan_group_in group_at least_unknown
plan_group_back table plan is =
    rw (group_with_id-file_id table plan.group is, base_or_null plan.base, any_back file_in file_json file_back plan.logs) refl

pub base_back : (table : List ℕ) (base : BaseMade) → IsGroup base.group → base_in table (base_json table base) ≡ Some base
unfolding base_in group_at least_unknown
base_back table base is = rw (group_with_id-file_id table base.group is) refl

-- ---- their depth, and no floats

base_depth : (base : Option NamedFile) → depth (null_or file_json base) ≤ 1
base_depth None = omega arith
base_depth (Some file) = omega arith

pub plan_group_depth : (table : List ℕ) (plan : PlanGroup) → depth (plan_group_json table plan) ≤ 3
plan_group_depth table plan =
    omega (arith, base_depth plan.base, list_depth file_json 1 (λ file. omega arith) plan.logs)

base_no_float : (base : Option NamedFile) → has_float (null_or file_json base) ≡ false
base_no_float None = refl
base_no_float (Some file) = refl

pub plan_group_no_float : (table : List ℕ) (plan : PlanGroup) → has_float (plan_group_json table plan) ≡ false
plan_group_no_float table plan = rw (base_no_float plan.base, list_no_float file_json (λ file. refl) plan.logs) refl
