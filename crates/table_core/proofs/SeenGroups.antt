-- The groups that the control's slices show are the live groups that have files.
use Rattle.std.proofs.Common.{◌≡◌, ℕ, ◌<◌, Bool, true, false, cond, ◌&&◌, List, [], ◌∷◌, map, reverse, length, get_or, zero, suc, Option, Some, None, refl, sym, ap, ◌∙◌, rules, arith, unwrap_or}
use Rattle.std.specs.Prelude.{◌||◌, ◌==◌, nat_lt, filter}
use Rattle.std.specs.BTreeMap.{get}
use Rattle.std.specs.List.{All, AllByRecursion, Contains}
use Rattle.std.specs.List.Sorted.{IsStrictlySortedBy}
use Rattle.std.specs.Ordering.{nat_cmp, is_eq, ordering_then}
use Rattle.std.specs.declared.cmp.Ordering.{Ordering}
use Rattle.std.specs.declared.cmp.Ordering.TheVariants.{Less, Equal, Greater}
use Rattle.std.proofs.lemmas.Bool.Decides.{nat_tests}
use Rattle.std.proofs.lemmas.List.{length-map, length-reverse}
use Rattle.std.proofs.lemmas.List.Elements.{All-head, All-tail, All-contains}
use Rattle.std.proofs.lemmas.Map.Views.{Contains-from_lookup}
use Rattle.hudi_base.specs.declared.file_group.GroupRef.{GroupRef}
use Rattle.hudi_base.specs.declared.file_group.Target.{Target}
use Rattle.key_index.specs.Tiling.{is_among, is_same_group}
use Rattle.key_index.proofs.FirstTiles.{same-is, same-itself}
use Rattle.table_core.specs.ControlTables.{IsControl}
use Rattle.table_core.specs.KeyLaws.{equal_group, equal_target, same_group}
use Rattle.table_core.specs.Keys.{target_cmp}
use Rattle.table_core.specs.Rooms.{found}
use Rattle.table_core.specs.SliceStates.{SliceState, no_logs}
use Rattle.table_core.specs.TileTables.{is_first}
use Rattle.table_core.specs.ViewTables.{AreEntries, is_seen, part_named, parts_of_slice, groups_among}
use Rattle.table_core.specs.declared.control.Control.{Control}
use Rattle.table_history.specs.Histories.{History}
use Rattle.table_history.specs.Logs.{logs_of}
use Rattle.table_history.specs.Pins.{AreParts, chain_at, has_files, part_of}
use Rattle.table_history.specs.Tables.{Table}
use Rattle.table_history.specs.Targets.{group_cmp, is_live, target_of_group}
use Rattle.table_history.specs.declared.log_file.LogFile.{LogFile}
use Rattle.table_history.specs.declared.view.GroupParts.{GroupParts}

abbrev pub Entries : Type 0
Entries = List (Target × SliceState)

abbrev pub group_of_entry : (Target × SliceState) → GroupRef
group_of_entry e = e.0.group

-- ---- tests

from_both : (a b : Bool) → (a ≡ true → b ≡ true) → (b ≡ true → a ≡ true) → a ≡ b
from_both true b to from = sym (to refl)
from_both false true to from = from refl
from_both false false to from = refl

both : (a b : Bool) → (a && b) ≡ true → (a ≡ true) × (b ≡ true)
both true b h = (refl, h)
both false b h = (h, cc)

with_both : (a b : Bool) → a ≡ true → b ≡ true → (a && b) ≡ true
with_both a b p q = cc

number_is : (m n : ℕ) → (m == n) ≡ true → m ≡ n
number_is m n h = grind (arith, nat_tests)

number_same : (n : ℕ) → (n == n) ≡ true
number_same n = grind (arith, nat_tests)

no_less : (n : ℕ) → nat_cmp n n ≡ Less → ⊥
no_less n less = absurd (let x : n < n = grind (arith, nat_tests) in omega (arith, x))

-- ---- lists

-- an entry of a list that passes a test and has a group
pub record HasEntry (p : (Target × SliceState) → Bool) (es : Entries) (g : GroupRef) : Type 0 where
  pub entry : Target × SliceState
  pub among : Contains es entry
  pub passes : p entry ≡ true
  pub group : entry.0.group ≡ g

later_entry : (p : (Target × SliceState) → Bool) (e : Target × SliceState) (es : Entries) (g : GroupRef) → HasEntry p es g → HasEntry p (e ∷ es) g
later_entry p e es g has = record {
  entry = has.entry;
  among = (suc has.among.0, omega (arith, has.among.1), has.among.2);
  passes = has.passes;
  group = has.group;
}

pub has_entry : (p : (Target × SliceState) → Bool) (es : Entries) (g : GroupRef) → is_among (map group_of_entry (filter p es)) g ≡ true → HasEntry p es g
has_entry p [] g among = cc
has_entry p (e ∷ es) g among = by_test (p e) refl among (has_entry p es g)
  where
    by_same : (b : Bool) → is_same_group g e.0.group ≡ b → p e ≡ true → (is_same_group g e.0.group || is_among (map group_of_entry (filter p es)) g) ≡ true
        → (is_among (map group_of_entry (filter p es)) g ≡ true → HasEntry p es g) → HasEntry p (e ∷ es) g
    by_same true same passes among later = record { entry = e; among = (0, omega arith, refl); passes = passes; group = sym (same-is g e.0.group same) }
    by_same false other passes among later = later_entry p e es g (later (ap (λ b. b || is_among (map group_of_entry (filter p es)) g) (sym other) ∙ among))

    by_test : (b : Bool) → p e ≡ b → is_among (map group_of_entry (cond b (e ∷ filter p es) (filter p es))) g ≡ true
        → (is_among (map group_of_entry (filter p es)) g ≡ true → HasEntry p es g) → HasEntry p (e ∷ es) g
    by_test true passes among later = by_same (is_same_group g e.0.group) refl passes among later
    by_test false fails among later = later_entry p e es g (later among)

or_true : (b : Bool) → (b || true) ≡ true
or_true true = refl
or_true false = refl

seen_here : (p : (Target × SliceState) → Bool) (x : Target × SliceState) (es : Entries) (g : GroupRef) (b : Bool) → p x ≡ b → b ≡ true → x.0.group ≡ g
    → is_among (map group_of_entry (cond b (x ∷ filter p es) (filter p es))) g ≡ true
seen_here p x es g true is passes same =
    ap (λ h. is_same_group g h || is_among (map group_of_entry (filter p es)) g) same
    ∙ ap (λ b. b || is_among (map group_of_entry (filter p es)) g) (same-itself g)
seen_here p x es g false is passes same = cc

seen_later : (p : (Target × SliceState) → Bool) (x : Target × SliceState) (es : Entries) (g : GroupRef) (b : Bool) → is_among (map group_of_entry (filter p es)) g ≡ true
    → is_among (map group_of_entry (cond b (x ∷ filter p es) (filter p es))) g ≡ true
seen_later p x es g true later = ap (λ b. is_same_group g x.0.group || b) later ∙ or_true (is_same_group g x.0.group)
seen_later p x es g false later = later

contains_seen : (p : (Target × SliceState) → Bool) (es : Entries) (g : GroupRef) (e : Target × SliceState) (k : ℕ) → k < length es → get_or es k e ≡ e → p e ≡ true → e.0.group ≡ g
    → is_among (map group_of_entry (filter p es)) g ≡ true
contains_seen p [] g e k short at passes same = absurd (omega arith)
contains_seen p (x ∷ es) g e zero short at passes same =
    seen_here p x es g (p x) refl (ap p at ∙ passes) (ap group_of_entry at ∙ same)
contains_seen p (x ∷ es) g e (suc k) short at passes same =
    seen_later p x es g (p x) (contains_seen p es g e k (omega arith) at passes same)

-- ---- order

less_group : (a b : Target) → a.slice ≡ a.group.born → b.slice ≡ b.group.born → target_cmp a b ≡ Less → group_cmp a.group b.group ≡ Less
less_group a b first second less = by_order (group_cmp a.group b.group) refl less
  where
    by_order : (o : Ordering) → group_cmp a.group b.group ≡ o → ordering_then o (nat_cmp a.slice b.slice) ≡ Less → group_cmp a.group b.group ≡ Less
    by_order Less is less = is
    by_order Equal is less =
        let group : a.group ≡ b.group = equal_group a.group b.group (sym (same_group a.group b.group) ∙ ap is_eq is) in
        let slice : a.slice ≡ b.slice = first ∙ ap (λ (g : GroupRef). g.born) group ∙ sym second in
        absurd (no_less b.slice (ap (λ n. nat_cmp n b.slice) (sym slice) ∙ less))
    by_order Greater is less = cc

abbrev key_of : (Target × SliceState) → Target
key_of e = e.0

module _ (p : (Target × SliceState) → Bool) (current : (e : Target × SliceState) → p e ≡ true → e.0.slice ≡ e.0.group.born) where
  less_all : (e : Target × SliceState) (es : Entries) → p e ≡ true → AllByRecursion (λ y. target_cmp e.0 y ≡ Less) (map key_of es)
      → AllByRecursion (λ y. group_cmp e.0.group y ≡ Less) (map group_of_entry (filter p es))
  less_all e [] passes less = tt
  less_all e (x ∷ es) passes less = by_test (p x) refl (less_all e es passes less.1)
    where
      by_test : (b : Bool) → p x ≡ b → AllByRecursion (λ y. group_cmp e.0.group y ≡ Less) (map group_of_entry (filter p es))
          → AllByRecursion (λ y. group_cmp e.0.group y ≡ Less) (map group_of_entry (cond b (x ∷ filter p es) (filter p es)))
      by_test true is rest = (less_group e.0 x.0 (current e passes) (current x is) less.0, rest)
      by_test false is rest = rest

  sorted_seen : (es : Entries) → IsStrictlySortedBy target_cmp (map key_of es) → IsStrictlySortedBy group_cmp (map group_of_entry (filter p es))
  unfolding IsStrictlySortedBy
  sorted_seen [] sorted = tt
  sorted_seen (e ∷ es) sorted = by_test (p e) refl (λ passes. less_all e es passes sorted.0) (sorted_seen es sorted.1)
    where
      by_test : (b : Bool) → p e ≡ b → (p e ≡ true → AllByRecursion (λ y. group_cmp e.0.group y ≡ Less) (map group_of_entry (filter p es)))
          → IsStrictlySortedBy group_cmp (map group_of_entry (filter p es)) → IsStrictlySortedBy group_cmp (map group_of_entry (cond b (e ∷ filter p es) (filter p es)))
      by_test true is less rest = (less is, rest)
      by_test false is less rest = rest

-- ---- the slices of a table

module _ (A : Table) (H : History) (control : Control) (is : IsControl A H control) (t : ℕ) where
  abbrev seen : (Target × SliceState) → Bool
  seen e = is_seen control.buckets e

  own : (s : Target) → s.slice ≡ s.group.born → s ≡ target_of_group s.group
  own s current = λ i. record { group = s.group; slice = current i }

  -- the logs that the tables have
  logs_known : (s : Target) (slice : SliceState) → get target_cmp control.slices.slots s ≡ Some slice → slice.logs ≡ logs_of A H s
  unfolding found
  logs_known s slice at = ap (λ o. (unwrap_or o no_logs).logs) (sym at) ∙ (is.slices s).logs

  -- they are found where there are any
  logs_found : (s : Target) (o : Option SliceState) → found target_cmp control.slices s ≡ o → nat_lt 0 (length (logs_of A H s)) ≡ true → (slice : SliceState) × (o ≡ Some slice)
  logs_found s None at some = absurd (let none : logs_of A H s ≡ [] = sym (is.slices s).logs ∙ ap (λ o. (unwrap_or o no_logs).logs) at in no_length (logs_of A H s) none some)
    where
      no_length : (logs : List LogFile) → logs ≡ [] → nat_lt 0 (length logs) ≡ true → ⊥
      no_length [] none some = cc
      no_length (log ∷ more) none some = cc
  logs_found s (Some slice) at some = (slice, refl)

  as_get : (s : Target) (o : Option SliceState) → found target_cmp control.slices s ≡ o → get target_cmp control.slices.slots s ≡ o
  unfolding found
  as_get s o at = at

  long : {X : Type 0} (f : LogFile → X) (logs : List LogFile) → length (map f (reverse logs)) ≡ length logs
  long f logs = length-map (reverse logs) f ∙ length-reverse logs

  files_are : (g : GroupRef) → has_files A H t false g ≡ nat_lt 0 (length (logs_of A H (target_of_group g)))
  files_are g = ap (λ n. nat_lt 0 n) (long (part_of A (target_of_group g)) (logs_of A H (target_of_group g)))

  live_are : (g : GroupRef) → is_live A g ≡ is_first control.buckets g
  live_are g = ap (λ n. is_first n g) (sym is.buckets)

  seen_live : AreEntries control.slices → (g : GroupRef) → HasEntry seen control.slices.slots.entries g → (is_live A g && has_files A H t false g) ≡ true
  seen_live entries g has =
      let parts = both (is_first control.buckets has.entry.0.group) _ has.passes in
      let more = both (has.entry.0.slice == has.entry.0.group.born) _ parts.1 in
      let at = All-contains (λ e. get target_cmp control.slices.slots e.0 ≡ Some e.1) control.slices.slots.entries has.entry entries.found has.among in
      let target : has.entry.0 ≡ target_of_group g = own has.entry.0 (number_is _ _ more.0) ∙ ap target_of_group has.group in
      with_both (is_live A g) (has_files A H t false g)
      (live_are g ∙ ap (λ h. is_first control.buckets h) (sym has.group) ∙ parts.0)
      (files_are g ∙ ap (λ s. nat_lt 0 (length (logs_of A H s))) (sym target) ∙ ap (λ logs. nat_lt 0 (length logs)) (sym (logs_known has.entry.0 has.entry.1 at)) ∙ more.1)

  live_seen : (g : GroupRef) → is_live A g ≡ true → nat_lt 0 (length (logs_of A H (target_of_group g))) ≡ true
      → (slice : SliceState) × (found target_cmp control.slices (target_of_group g) ≡ Some slice)
      → is_among (map group_of_entry (filter seen control.slices.slots.entries)) g ≡ true
  live_seen g live some (slice, at) =
      let s = target_of_group g in
      let here = as_get s (Some slice) at in
      let among = Contains-from_lookup (λ x y. equal_target x y) s slice control.slices.slots.entries here in
      contains_seen seen control.slices.slots.entries g (s, slice) among.0 among.1 among.2
      (with_both (is_first control.buckets g) _ (sym (live_are g) ∙ live)
      (with_both (g.born == g.born) _ (number_same g.born) (ap (λ logs. nat_lt 0 (length logs)) (logs_known s slice here) ∙ some)))
      refl

  seen_are : AreEntries control.slices → (g : GroupRef)
      → is_among (map group_of_entry (filter seen control.slices.slots.entries)) g ≡ (is_live A g && has_files A H t false g)
  seen_are entries g = from_both _ _
      (λ among. seen_live entries g (has_entry seen control.slices.slots.entries g among))
      (λ tests.
      let parts = both (is_live A g) (has_files A H t false g) tests in
      let some = sym (files_are g) ∙ parts.1 in
      let there = logs_found (target_of_group g) (found target_cmp control.slices (target_of_group g)) refl some in
      live_seen g parts.0 some there)

  parts_known : (es : Entries) → All (λ e. get target_cmp control.slices.slots e.0 ≡ Some e.1) es
      → groups_among control.props.name control.buckets es
      ≡ map (λ group. (let parts : GroupParts = record { group = group; parts = chain_at A H group t false } in parts)) (map group_of_entry (filter seen es))
  parts_known [] all = refl
  parts_known (e ∷ es) all = by_test (seen e) refl (parts_known es (All-tail (λ (e : Target × SliceState). get target_cmp control.slices.slots e.0 ≡ Some e.1) e es all))
    where
      with_chain : GroupRef → GroupParts
      with_chain group = record { group = group; parts = chain_at A H group t false }

      one : seen e ≡ true → parts_of_slice control.props.name e ≡ with_chain e.0.group
      one passes =
          let more = both (e.0.slice == e.0.group.born) _ (both (is_first control.buckets e.0.group) _ passes).1 in
          let target = own e.0 (number_is _ _ more.0) in
          let at = All-head (λ e. get target_cmp control.slices.slots e.0 ≡ Some e.1) e es all in
          ap (λ parts. (let p : GroupParts = record { group = e.0.group; parts = parts } in p))
          (ap (λ name. map (part_named name e.0) (reverse e.1.logs)) (ap (λ props. props.name) is.props)
          ∙ ap (λ logs. map (part_named A.props.name e.0) (reverse logs)) (logs_known e.0 e.1 at)
          ∙ ap (λ s. map (part_named A.props.name s) (reverse (logs_of A H s))) target)

      by_test : (b : Bool) → seen e ≡ b → map (parts_of_slice control.props.name) (filter seen es) ≡ map with_chain (map group_of_entry (filter seen es))
          → map (parts_of_slice control.props.name) (cond b (e ∷ filter seen es) (filter seen es)) ≡ map with_chain (map group_of_entry (cond b (e ∷ filter seen es) (filter seen es)))
      by_test true passes rest = ap (λ p. p ∷ map (parts_of_slice control.props.name) (filter seen es)) (one passes) ∙ ap (λ ps. with_chain e.0.group ∷ ps) rest
      by_test false fails rest = rest

  pub parts_seen : AreEntries control.slices → (parts : List GroupParts) → parts ≡ groups_among control.props.name control.buckets control.slices.slots.entries → AreParts A H t false parts
  parts_seen entries parts same = record {
    groups = _;
    live = record {
      are = seen_are entries;
      order = sorted_seen seen (λ e passes. number_is _ _ (both (e.0.slice == e.0.group.born) _ (both (is_first control.buckets e.0.group) _ passes).1).0) control.slices.slots.entries entries.order;
    };
    are = same ∙ parts_known control.slices.slots.entries entries.found;
  }
