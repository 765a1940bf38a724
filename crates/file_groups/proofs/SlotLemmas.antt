-- Parts in the order of their groups' slots, and the parts of one group among them.
use Rattle.std.proofs.Common.{◌≡◌, ℕ, ◌+◌, ◌<◌, Bool, true, false, ◌&&◌, not, nat_eq, nat_lt, ltb, leb, cond, List, [], ◌∷◌, ◌++◌, length, get_or, take, drop, filter, refl, sym, ap, ◌∙◌, arith}
use Rattle.std.specs.Ordering.{nat_cmp, is_lt}
use Rattle.std.specs.List.{AllByRecursion, AllWithin, All}
use Rattle.std.specs.List.Sorted.{IsStableByKey, ties}
use Rattle.std.specs.Str.{bytes_eq}
use Rattle.std.proofs.lemmas.Bool.Decides.{nat_tests}
use Rattle.std.proofs.lemmas.Bool.{false_from_ne_true}
use Rattle.std.proofs.lemmas.List.{take-append-drop, append-nil, length-take, length-drop, get_or-take, get_or-drop}
use Rattle.std.proofs.lemmas.List.Elements.{filter-append, recursion_from_All}
use borrow.Author.Tests.{ltb-true}
use Rattle.hudi_base.specs.declared.file_group.GroupRef.{GroupRef}
use Rattle.key_index.specs.Tiling.{is_same_group}
use Rattle.table_forms.proofs.PieceLemmas.{and_parts}
use Rattle.file_groups.specs.Slots.{group_number}

-- ---- filters

within_step : {X : Type 0} (p : X → Bool) (x : X) (a b : Bool) (some all : List X) → p x ≡ a → (a ≡ true → b ≡ true) → filter p some ≡ all
    → filter p (cond b (x ∷ some) some) ≡ cond a (x ∷ all) all
within_step p x true true some all is within rest = rw is (ap (λ ys. x ∷ ys) rest)
within_step p x true false some all is within rest = let same = within refl in absurd cc
within_step p x false true some all is within rest = rw is rest
within_step p x false false some all is within rest = rest

pub filter_within : {X : Type 0} (p q : X → Bool) → ((x : X) → p x ≡ true → q x ≡ true) → (xs : List X) → filter p (filter q xs) ≡ filter p xs
filter_within p q within [] = refl
filter_within p q within (x ∷ xs) = within_step p x (p x) (q x) (filter q xs) (filter p xs) refl (within x) (filter_within p q within xs)

pub filter_none : {X : Type 0} (p : X → Bool) (xs : List X) → AllByRecursion (λ x. p x ≡ false) xs → filter p xs ≡ []
filter_none p [] none = refl
filter_none p (x ∷ xs) none = rw (none.0, filter_none p xs none.1) refl

-- ---- groups

same_parts : (g h : GroupRef) → is_same_group g h ≡ true → (g.lo ≡ h.lo) × (g.hi ≡ h.hi) × (g.born ≡ h.born)
same_parts g h e =
    let partition = and_parts (bytes_eq g.partition h.partition) (nat_eq g.lo h.lo && (nat_eq g.hi h.hi && nat_eq g.born h.born)) e in
    let lo = and_parts (nat_eq g.lo h.lo) (nat_eq g.hi h.hi && nat_eq g.born h.born) partition.1 in
    let hi = and_parts (nat_eq g.hi h.hi) (nat_eq g.born h.born) lo.1 in
    (grind (arith, nat_tests, lo.0), grind (arith, nat_tests, hi.0), grind (arith, nat_tests, hi.1))

pub same_number : (g h : GroupRef) → is_same_group g h ≡ true → group_number g ≡ group_number h
same_number g h e = let parts = same_parts g h e in rw (parts.0, parts.1, parts.2) refl

other_number : (g h : GroupRef) → (group_number g ≡ group_number h → ⊥) → is_same_group g h ≡ false
other_number g h other = false_from_ne_true (is_same_group g h) (λ e. other (same_number g h e))

not_above : (a b : ℕ) → a ≡ b → leb a b ≡ false → ⊥
not_above a b e over = let here : leb a b ≡ true = grind (arith, nat_tests) in absurd cc

tie_of : (a b : ℕ) → a ≡ b → (not (is_lt (nat_cmp b a)) && not (is_lt (nat_cmp a b))) ≡ true
tie_of a b e = rw e (by (is_lt (nat_cmp b b)) (not_below b))
  where
    not_below : (n : ℕ) → is_lt (nat_cmp n n) ≡ false
    not_below n = let none : nat_lt n n ≡ false = grind (arith, nat_tests) in let same : nat_eq n n ≡ true = grind (arith, nat_tests) in rw (none, same) refl

    by : (c : Bool) → c ≡ false → (not c && not c) ≡ true
    by true e = absurd cc
    by false e = refl

-- ---- stable sorts

module _ {P : Type 0} (group_of : P → GroupRef) (part_in : GroupRef → P) (stands_in : (group : GroupRef) → group_of (part_in group) ≡ group) where
  -- a stable sort leaves the parts of a group in their order
  pub sort_keeps_own : (xs ys : List P) → IsStableByKey (λ part. group_number (group_of part)) nat_cmp xs ys → (group : GroupRef)
      → filter (λ part. is_same_group (group_of part) group) ys ≡ filter (λ part. is_same_group (group_of part) group) xs
  sort_keeps_own xs ys stable group =
      let own : P → Bool = λ part. is_same_group (group_of part) group in
      let tied : P → Bool = ties (λ x y. is_lt (nat_cmp (group_number (group_of x)) (group_number (group_of y)))) (part_in group) in
      let within : (x : P) → own x ≡ true → tied x ≡ true = λ x e.
      let same : group_number (group_of x) ≡ group_number (group_of (part_in group)) = same_number _ group e ∙ sym (ap group_number (stands_in group)) in
      tie_of _ _ same in
      sym (filter_within own tied within ys) ∙ ap (filter own) (stable (part_in group)) ∙ filter_within own tied within xs

  -- ---- parts of other groups, left out

  pub parts_from : (group : GroupRef) (xs : List P) (first : ℕ) → AllWithin (λ part. ltb (group_number (group_of part)) (group_number group) ≡ true) xs 0 first
      → filter (λ part. is_same_group (group_of part) group) (drop first xs) ≡ filter (λ part. is_same_group (group_of part) group) xs
  parts_from group xs first below =
      let own : P → Bool = λ part. is_same_group (group_of part) group in
      let each : All (λ part. own part ≡ false) (take first xs) = λ k d h.
      let long = length-take first xs in
      let here : k < first = omega (arith, long) in
      let less = ltb-true _ _ (below k d (omega arith) here) in
      let same : get_or (take first xs) k d ≡ get_or xs k d = get_or-take first xs k d here in
      rw same (other_number (group_of (get_or xs k d)) group (λ e. omega (arith, e, less))) in
      let none = filter_none own (take first xs) (recursion_from_All (λ part. own part ≡ false) (take first xs) each) in
      sym (ap (filter own) (sym (take-append-drop first xs)) ∙ filter-append own (take first xs) (drop first xs) ∙ ap (λ front. front ++ filter own (drop first xs)) none)

  pub parts_up_to : (group : GroupRef) (xs : List P) (end : ℕ) → AllWithin (λ part. leb (group_number (group_of part)) (group_number group) ≡ false) xs end (length xs)
      → filter (λ part. is_same_group (group_of part) group) (take end xs) ≡ filter (λ part. is_same_group (group_of part) group) xs
  parts_up_to group xs end above =
      let own : P → Bool = λ part. is_same_group (group_of part) group in
      let each : All (λ part. own part ≡ false) (drop end xs) = λ k d h.
      let long = length-drop end xs in
      let greater = above (end + k) d (omega arith) (omega (arith, long)) in
      let same : get_or (drop end xs) k d ≡ get_or xs (end + k) d = get_or-drop end xs k d in
      rw same (other_number (group_of (get_or xs (end + k) d)) group (λ e. absurd (not_above _ _ e greater))) in
      let none = filter_none own (drop end xs) (recursion_from_All (λ part. own part ≡ false) (drop end xs) each) in
      sym (ap (filter own) (sym (take-append-drop end xs)) ∙ filter-append own (take end xs) (drop end xs) ∙ ap (λ back. filter own (take end xs) ++ back) none
      ∙ append-nil (filter own (take end xs)))
