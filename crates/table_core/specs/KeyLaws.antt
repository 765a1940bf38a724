-- The order of keys tells them apart.
use Rattle.std.specs.Prelude.{◌≡◌, ℕ, Bool, true, false, ◌==◌, ◌&&◌}
use Rattle.std.specs.Ordering.{nat_cmp, is_eq}
use Rattle.std.specs.Cmp.{tied_then}
use Rattle.std.specs.Cmp.Lexicographic.{slice_cmp, same_text}
use Rattle.std.specs.Str.{bytes_eq}
use Rattle.std.proofs.Common.{refl, sym, ap, ◌∙◌, arith}
use Rattle.std.proofs.lemmas.Bool.Decides.{nat_tests}
use Rattle.std.proofs.lemmas.Map.Text.{is_eq-slice_cmp}
use Rattle.hudi_base.specs.declared.file_group.GroupRef.{GroupRef}
use Rattle.hudi_base.specs.declared.file_group.Target.{Target}
use Rattle.table_history.specs.Targets.{is_group, is_target, group_cmp}
use Rattle.table_core.specs.Keys.{target_cmp, number_cmp, is_number}
use Rattle.table_core.specs.declared.written.TargetNumber.{TargetNumber}

pub same_number : (a b : ℕ) → is_eq (nat_cmp a b) ≡ (a == b)
same_number a b = grind (arith, nat_tests)

pub equal_number : (a b : ℕ) → is_eq (nat_cmp a b) ≡ true → a ≡ b
equal_number a b h = grind (arith, nat_tests)

regrouped : (a b c d : Bool) → (a && (b && (c && d))) ≡ (((a && b) && c) && d)
regrouped true b c d = elim b as (λ b. (b && (c && d)) ≡ ((b && c) && d)) [ true ↦ refl | false ↦ refl ]
regrouped false b c d = refl

pub same_group : (a b : GroupRef) → is_eq (group_cmp a b) ≡ is_group a b
same_group a b =
    sym (tied_then (slice_cmp nat_cmp a.partition b.partition) _)
    ∙ ap (λ t. is_eq (slice_cmp nat_cmp a.partition b.partition) && t) (sym (tied_then (nat_cmp a.lo b.lo) _)
    ∙ ap (λ t. is_eq (nat_cmp a.lo b.lo) && t) (sym (tied_then (nat_cmp a.hi b.hi) (nat_cmp a.born b.born))))
    ∙ parts (is_eq-slice_cmp a.partition b.partition) (same_number a.lo b.lo) (same_number a.hi b.hi) (same_number a.born b.born)
    ∙ regrouped (bytes_eq a.partition b.partition) (a.lo == b.lo) (a.hi == b.hi) (a.born == b.born)
  where
    parts : {p q l m h i s t : Bool} → p ≡ q → l ≡ m → h ≡ i → s ≡ t → (p && (l && (h && s))) ≡ (q && (m && (i && t)))
    parts p l h s = cc

pub same_target : (a b : Target) → is_eq (target_cmp a b) ≡ is_target a b
same_target a b =
    sym (tied_then (group_cmp a.group b.group) (nat_cmp a.slice b.slice))
    ∙ ap (λ t. t && is_eq (nat_cmp a.slice b.slice)) (same_group a.group b.group)
    ∙ ap (λ t. is_group a.group b.group && t) (same_number a.slice b.slice)

both : (a b : Bool) → (a && b) ≡ true → (a ≡ true) × (b ≡ true)
both true b h = (refl, h)
both false b h = (h, cc)

record_of_group : (a b : GroupRef) → a.partition ≡ b.partition → a.lo ≡ b.lo → a.hi ≡ b.hi → a.born ≡ b.born → a ≡ b
record_of_group a b p l h s = λ i. record { partition = p i; lo = l i; hi = h i; born = s i }

pub equal_group : (a b : GroupRef) → is_group a b ≡ true → a ≡ b
equal_group a b h =
    let last = both _ _ h in
    let more = both _ _ last.0 in
    let two = both _ _ more.0 in
    record_of_group a b (same_text a.partition b.partition (sym two.0)) (number a.lo b.lo two.1) (number a.hi b.hi more.1) (number a.born b.born last.1)
  where
    number : (m n : ℕ) → (m == n) ≡ true → m ≡ n
    number m n h = grind (arith, nat_tests)

record_of_target : (a b : Target) → a.group ≡ b.group → a.slice ≡ b.slice → a ≡ b
record_of_target a b g s = λ i. record { group = g i; slice = s i }

-- the test of a slice tells slices apart
pub target_is : (a b : Target) → is_target a b ≡ true → a ≡ b
target_is a b h =
    let parts = both _ _ h in
    record_of_target a b (equal_group a.group b.group parts.0) (number a.slice b.slice parts.1)
  where
    number : (m n : ℕ) → (m == n) ≡ true → m ≡ n
    number m n h = grind (arith, nat_tests)

pub equal_target : (a b : Target) → is_eq (target_cmp a b) ≡ true → a ≡ b
equal_target a b h = target_is a b (sym (same_target a b) ∙ h)

pub same_target_number : (a b : TargetNumber) → is_eq (number_cmp a b) ≡ is_number a b
same_target_number a b =
    sym (tied_then (nat_cmp a.t b.t) (nat_cmp a.number b.number))
    ∙ ap (λ t. t && is_eq (nat_cmp a.number b.number)) (same_number a.t b.t)
    ∙ ap (λ t. (a.t == b.t) && t) (same_number a.number b.number)

record_of_number : (a b : TargetNumber) → a.t ≡ b.t → a.number ≡ b.number → a ≡ b
record_of_number a b t n = λ i. record { t = t i; number = n i }

pub equal_target_number : (a b : TargetNumber) → is_eq (number_cmp a b) ≡ true → a ≡ b
equal_target_number a b h =
    let parts = both (a.t == b.t) (a.number == b.number) (sym (same_target_number a b) ∙ h) in
    record_of_number a b (number a.t b.t parts.0) (number a.number b.number parts.1)
  where
    number : (m n : ℕ) → (m == n) ≡ true → m ≡ n
    number m n h = grind (arith, nat_tests)
