-- A list in the order of a number of each element, those with one number in the order that they had, is determined.
use Rattle.std.proofs.Common.{◌≡◌, ℕ, suc, ◌<◌, ◌≤◌, Bool, true, false, ◌&&◌, not, nat_eq, nat_lt, cond, List, [], ◌∷◌, filter, refl, sym, ap, ◌∙◌, arith}
use Rattle.std.specs.Ordering.{nat_cmp, is_lt}
use Rattle.std.specs.List.{AllByRecursion}
use Rattle.std.specs.List.Sorted.{IsNonDecreasingBy, ties}
use Rattle.std.proofs.lemmas.Bool.Decides.{nat_tests}
use Rattle.std.proofs.lemmas.List.Elements.{recursion_from_All, filter_agree}
use borrow.Author.Tests.{ltb-true}
use Rattle.file_groups.specs.Orders.{IsSortedFrom}
use Rattle.file_groups.proofs.SlotLemmas.{filter_none}

tied_is : (a b : ℕ) → (not (is_lt (nat_cmp a b)) && not (is_lt (nat_cmp b a))) ≡ nat_eq a b
tied_is a b = by (nat_lt a b) (nat_eq a b) refl refl
  where
    by : (l e : Bool) → nat_lt a b ≡ l → nat_eq a b ≡ e → (not (is_lt (nat_cmp a b)) && not (is_lt (nat_cmp b a))) ≡ nat_eq a b
    by true e l is =
        let apart : nat_eq a b ≡ false = grind (arith, nat_tests) in
        rw (l, apart) refl
    by false true l is =
        let back : nat_lt b a ≡ false = grind (arith, nat_tests) in
        let turned : nat_eq b a ≡ true = grind (arith, nat_tests) in
        rw (l, is, back, turned) refl
    by false false l is =
        let back : nat_lt b a ≡ true = grind (arith, nat_tests) in
        rw (l, is, back) refl

module _ {A : Type 0} (number : A → ℕ) where
  pub same : A → A → Bool
  same x y = nat_eq (number x) (number y)

  -- ---- the first of a list in order is the least

  rises_head : (z : A) (zs : List A) → IsNonDecreasingBy number (z ∷ zs) → AllByRecursion (λ w. number z ≤ number w) zs
  rises_head z zs up = recursion_from_All (λ w. number z ≤ number w) zs (λ k d below. up 0 (suc k) d (omega arith) (omega arith))

  rises_tail : (z : A) (zs : List A) → IsNonDecreasingBy number (z ∷ zs) → IsNonDecreasingBy number zs
  rises_tail z zs up = λ i j d le below. up (suc i) (suc j) d (omega arith) (omega arith)

  others : (y : A) (zs : List A) (n : ℕ) → number y < n → AllByRecursion (λ w. n ≤ number w) zs → AllByRecursion (λ w. same y w ≡ false) zs
  unfolding same
  others y [] n less all = tt
  others y (z ∷ zs) n less all = let apart : nat_eq (number y) (number z) ≡ false = grind (arith, nat_tests, all.0) in (apart, others y zs n less all.1)

  no_tie : (y z : A) (zs : List A) → number y < number z → IsNonDecreasingBy number (z ∷ zs) → filter (same y) (z ∷ zs) ≡ []
  unfolding same
  no_tie y z zs less up =
      let apart : nat_eq (number y) (number z) ≡ false = grind (arith, nat_tests, less) in
      filter_none (same y) (z ∷ zs) (apart, others y zs (number z) less (rises_head z zs up))

  itself : (y : A) → same y y ≡ true
  unfolding same
  itself y = grind (arith, nat_tests)

  filled : (y : A) (ys : List A) → filter (same y) (y ∷ ys) ≡ y ∷ filter (same y) ys
  filled y ys = rw (itself y) refl

  ties_first : (y z : A) (ys zs : List A) → number y ≡ number z → filter (same y) (y ∷ ys) ≡ filter (same y) (z ∷ zs) → y ≡ z
  unfolding same
  ties_first y z ys zs e told =
      let here : nat_eq (number y) (number z) ≡ true = grind (arith, nat_tests) in
      let other : filter (same y) (z ∷ zs) ≡ z ∷ filter (same y) zs = rw here refl in
      let own : filter (same y) (y ∷ ys) ≡ y ∷ filter (same y) ys = filled y ys in
      cc

  not_below : (y z : A) (ys zs : List A) → number y < number z → IsNonDecreasingBy number (z ∷ zs) → filter (same y) (y ∷ ys) ≡ filter (same y) (z ∷ zs) → ⊥
  not_below y z ys zs less up told =
      let none : filter (same y) (z ∷ zs) ≡ [] = no_tie y z zs less up in
      let own : filter (same y) (y ∷ ys) ≡ y ∷ filter (same y) ys = filled y ys in
      cc

  first_by : (y z : A) (ys zs : List A) → IsNonDecreasingBy number (y ∷ ys) → IsNonDecreasingBy number (z ∷ zs) → ((x : A) → filter (same x) (y ∷ ys) ≡ filter (same x) (z ∷ zs))
      → (l g : Bool) → nat_lt (number y) (number z) ≡ l → nat_lt (number z) (number y) ≡ g → y ≡ z
  first_by y z ys zs up also agree true g l e = absurd (not_below y z ys zs (ltb-true _ _ l) also (agree y))
  first_by y z ys zs up also agree false true l e = absurd (not_below z y zs ys (ltb-true _ _ e) up (sym (agree z)))
  first_by y z ys zs up also agree false false l e = ties_first y z ys zs (grind (arith, nat_tests)) (agree y)

  rest_by : (x y : A) (ys zs : List A) (b : Bool) → cond b (y ∷ filter (same x) ys) (filter (same x) ys) ≡ cond b (y ∷ filter (same x) zs) (filter (same x) zs)
      → filter (same x) ys ≡ filter (same x) zs
  rest_by x y ys zs true e = cc
  rest_by x y ys zs false e = e

  pub one_order : (ys zs : List A) → IsNonDecreasingBy number ys → IsNonDecreasingBy number zs → ((x : A) → filter (same x) ys ≡ filter (same x) zs) → ys ≡ zs
  one_order [] [] up also agree = refl
  one_order [] (z ∷ zs) up also agree = let told = agree z in let own = filled z zs in absurd cc
  one_order (y ∷ ys) [] up also agree = let told = agree y in let own = filled y ys in absurd cc
  one_order (y ∷ ys) (z ∷ zs) up also agree =
      let first : y ≡ z = first_by y z ys zs up also agree (nat_lt (number y) (number z)) (nat_lt (number z) (number y)) refl refl in
      let agree_on : (x : A) → filter (same x) (y ∷ ys) ≡ filter (same x) (y ∷ zs) = λ x. agree x ∙ ap (λ (w : A). filter (same x) (w ∷ zs)) (sym first) in
      let rest : ys ≡ zs = one_order ys zs (rises_tail y ys up) (rises_tail z zs also) (λ x. rest_by x y ys zs (same x y) (agree_on x)) in
      ap (λ (w : A). w ∷ ys) first ∙ ap (λ ws. z ∷ ws) rest

  -- the list of that order
  pub sorted_determined : (xs ys zs : List A) → IsSortedFrom number xs ys → IsSortedFrom number xs zs → ys ≡ zs
  unfolding same
  sorted_determined xs ys zs one other =
      let agree : (x : A) → filter (same x) ys ≡ filter (same x) zs = λ x.
      let told : filter (ties (λ a b. is_lt (nat_cmp (number a) (number b))) x) ys ≡ filter (ties (λ a b. is_lt (nat_cmp (number a) (number b))) x) zs = one.ties x ∙ sym (other.ties x) in
      filter_agree (same x) _ (λ y. sym (tied_is (number x) (number y))) ys ∙ told ∙ filter_agree _ (same x) (λ y. tied_is (number x) (number y)) zs in
      one_order ys zs one.order other.order agree
