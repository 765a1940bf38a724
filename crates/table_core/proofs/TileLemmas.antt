-- The groups of slots are tiles.
use Rattle.std.proofs.Common.{◌≡◌, ℕ, Bool, true, false, ◌&&◌, List, [], ◌∷◌, map, refl, sym, ap, ◌∙◌, Result, Ok, Err}
use Rattle.std.specs.Prelude.{◌||◌, OnOk, IfOk}
use Rattle.std.specs.List.{list_any, range_with_len}
use Rattle.std.specs.List.Sorted.{IsStrictlySortedBy}
use Rattle.std.specs.Str.{bytes_eq}
use Rattle.hudi_base.specs.declared.file_group.GroupRef.{GroupRef}
use Rattle.hudi_base.specs.declared.file_group.Target.{Target}
use Rattle.key_index.specs.Tiling.{first_group, first_groups, groups_at, has_slot, is_among, is_same_group}
use Rattle.key_index.proofs.FirstTiles.{among-one, same-is, bytes-same}
use Rattle.std.proofs.lemmas.Slice.Eq.{bytes_eq-Decides}
use Rattle.table_core.specs.TileTables.{is_first, is_tile, is_tile_of, is_tile_asked}
use Rattle.table_history.specs.Tables.{Table}
use Rattle.table_history.specs.Targets.{AreTargets, is_asked, group_cmp, target_of_group}
use Rattle.table_history.specs.declared.step.PartitionSlots.{PartitionSlots}

-- ---- the group of a slot

pub or-flip : (a b : Bool) → (a || b) ≡ (b || a)
or-flip true true = refl
or-flip true false = refl
or-flip false true = refl
or-flip false false = refl

of_partition : (partition : List ℕ) (buckets : ℕ) (numbers : List ℕ) (g : GroupRef) → is_among (map (first_group partition buckets) numbers) g ≡ true → partition ≡ g.partition
of_partition partition buckets [] g among = cc
of_partition partition buckets (n ∷ numbers) g among =
    by_test (is_same_group g (first_group partition buckets n)) refl (of_partition partition buckets numbers g)
  where
    rest : (b c : Bool) → b ≡ false → (b || c) ≡ true → c ≡ true
    rest b c differs some = cc

    by_test : (b : Bool) → is_same_group g (first_group partition buckets n) ≡ b → (is_among (map (first_group partition buckets) numbers) g ≡ true → partition ≡ g.partition) → partition ≡ g.partition
    by_test true same later = sym (ap (λ (h : GroupRef). h.partition) (same-is g (first_group partition buckets n) same))
    by_test false other later = later (rest (is_same_group g (first_group partition buckets n)) (is_among (map (first_group partition buckets) numbers) g) other among)

first_of : (partition : List ℕ) (buckets : ℕ) (g : GroupRef) → is_among (first_groups partition buckets) g ≡ true → partition ≡ g.partition
unfolding first_groups
first_of partition buckets g among = of_partition partition buckets (range_with_len 0 buckets) g among

pub one_tile : (partition : List ℕ) (buckets slot : ℕ) (one g : GroupRef) → groups_at slot (first_groups partition buckets) ≡ one ∷ []
    → is_same_group g one ≡ is_tile buckets partition slot g
one_tile partition buckets slot one g is =
    among-one slot (first_groups partition buckets) one g is ∙ by_test (bytes_eq partition g.partition) refl
  where
    none : (a h : Bool) → (a ≡ true → false ≡ true) → (a && h) ≡ false
    none true h no_case = absurd (let x : false ≡ true = no_case refl in cc)
    none false h no_case = refl

    and_false : (a : Bool) → (a && false) ≡ false
    and_false true = refl
    and_false false = refl

    by_test : (b : Bool) → bytes_eq partition g.partition ≡ b
        → (is_among (first_groups partition buckets) g && has_slot g slot) ≡ (is_first buckets g && (bytes_eq partition g.partition && has_slot g slot))
    by_test true same =
        ap (λ p. is_among (first_groups p buckets) g && has_slot g slot) ((bytes_eq-Decides partition g.partition).0 same)
        ∙ ap (λ b. is_first buckets g && (b && has_slot g slot)) (sym same)
    by_test false other =
        none (is_among (first_groups partition buckets) g) (has_slot g slot)
        (λ among. sym other ∙ ap (λ p. bytes_eq partition p) (sym (first_of partition buckets g among)) ∙ bytes-same partition)
        ∙ sym (ap (λ b. is_first buckets g && (b && has_slot g slot)) other ∙ and_false (is_first buckets g))

pub on_ok : {T E P Q : Type 0} → (P → Q) → (r : Result T E) → OnOk r P → OnOk r Q
on_ok leads (Ok x) holds = leads holds
on_ok leads (Err e) holds = tt

pub if_ok : {T E : Type 0} (P Q : T → Type 0) → ((x : T) → P x → Q x) → (r : Result T E) → IfOk r P → IfOk r Q
if_ok P Q leads (Ok x) holds = leads x holds
if_ok P Q leads (Err e) holds = tt

pub is_record : (p q : List ℕ) (lo hi born : ℕ) → p ≡ q
    → (let g : GroupRef = record { partition = p; lo = lo; hi = hi; born = born } in g) ≡ record { partition = q; lo = lo; hi = hi; born = born }
is_record p q lo hi born same = λ i. record { partition = same i; lo = lo; hi = hi; born = born }

-- ---- the groups of slots

and-over_or : (a b c : Bool) → ((a && b) || (a && c)) ≡ (a && (b || c))
and-over_or true b c = refl
and-over_or false b c = refl

and_false : (a : Bool) → false ≡ (a && false)
and_false true = refl
and_false false = refl

tiles_apart : (buckets : ℕ) (partition slots : List ℕ) (g : GroupRef)
    → is_tile_of buckets partition slots g ≡ (is_first buckets g && (bytes_eq partition g.partition && list_any (λ slot. has_slot g slot) slots))
tiles_apart buckets partition [] g = none (is_first buckets g) (bytes_eq partition g.partition)
  where
    none : (a b : Bool) → false ≡ (a && (b && false))
    none true true = refl
    none true false = refl
    none false b = refl
tiles_apart buckets partition (slot ∷ slots) g =
    ap (λ b. is_tile buckets partition slot g || b) (tiles_apart buckets partition slots g)
    ∙ and-over_or (is_first buckets g) _ _
    ∙ ap (λ b. is_first buckets g && b) (and-over_or (bytes_eq partition g.partition) (has_slot g slot) _)

pub asked_apart : (buckets : ℕ) (slots : List PartitionSlots) (g : GroupRef) → is_tile_asked buckets slots g ≡ (is_first buckets g && is_asked slots g)
asked_apart buckets [] g = and_false (is_first buckets g)
asked_apart buckets (asked ∷ slots) g =
    ap (λ b. b || is_tile_asked buckets slots g) (tiles_apart buckets asked.partition asked.slots g)
    ∙ ap (λ b. (is_first buckets g && (bytes_eq asked.partition g.partition && list_any (λ slot. has_slot g slot) asked.slots)) || b) (asked_apart buckets slots g)
    ∙ and-over_or (is_first buckets g) _ _

pub are_targets : (A : Table) (buckets : ℕ) (slots : List PartitionSlots) (groups : List GroupRef) (targets : List Target) → A.props.buckets ≡ buckets
    → ((g : GroupRef) → is_among groups g ≡ is_tile_asked buckets slots g) → IsStrictlySortedBy group_cmp groups → targets ≡ map target_of_group groups → AreTargets A slots targets
are_targets A buckets slots groups targets same has order are = record {
  groups = groups;
  live = record {
    are = λ g. has g ∙ asked_apart buckets slots g ∙ ap (λ n. is_first n g && is_asked slots g) (sym same);
    order = order;
  };
  are = are;
}
