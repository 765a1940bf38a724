-- Lists in order of time: where a time stands in one, and what an edit at its place leaves.
use Rattle.std.proofs.Common.{◌≡◌, ◌≢◌, ◌⊎◌, inl, inr, ℕ, suc, ◌+◌, ◌-◌, ◌<◌, ◌≤◌, List, [], ◌∷◌, length, get_or, set, take, drop, refl, sym, ◌∙◌, ap, subst, arith, true, false, ltb}
use Rattle.std.proofs.lemmas.Bool.Decides.{nat_tests}
use Rattle.std.specs.Prelude.{◌↔◌}
use Rattle.std.specs.List.{All, Contains, insert, remove}
use Rattle.std.specs.List.Sorted.{IsPermutation, IsPartitionPoint, IsNonDecreasingBy}
use Rattle.std.proofs.lemmas.Bool.{cases_order, cases_lt}
use Rattle.std.proofs.lemmas.List.{get_or_default, set_split, length-set, get_or-set_same, get_or-set_other}
use Rattle.std.proofs.lemmas.List.Edits.{length-insert, get_or-insert_below, get_or-insert_at, get_or-insert_above, length-remove, get_or-remove_below, get_or-remove_above}
use Rattle.std.proofs.lemmas.List.Elements.{All-append, All-cons, All-take, All-drop, Contains-append_cases, Contains-append_right}
use Rattle.std.proofs.lemmas.List.Sorted.{Contains-permutation, IsPermutation-insert, IsPermutation-remove, IsPermutation-middle, IsPermutation-sym}
use Rattle.instant_line.specs.Line.{AreInTime}
use Rattle.instant_line.specs.PendingList.{IsPlace}

pub rises-non_decreasing : {X : Type 0} (n : X → ℕ) (xs : List X) → AreInTime n xs → IsNonDecreasingBy n xs
rises-non_decreasing n xs rises i j d le short = elim (cases_order i j) [
  | inl same ↦ let e = ap (λ k. n (get_or xs k d)) same in omega arith
  | inr rest ↦ elim rest [
    | inl below ↦ let lower = rises i j d below short in omega arith
    | inr above ↦ absurd (omega arith)
  ]
]

ltb-below : (a b : ℕ) → ltb a b ≡ true → a < b
ltb-below a b e = grind (arith, nat_tests)

ltb-from : (a b : ℕ) → ltb a b ≡ false → b ≤ a
ltb-from a b e = grind (arith, nat_tests)

-- the place that a search by the test `n x < t` finds
pub place-tested : {X : Type 0} (n : X → ℕ) (t : ℕ) (xs : List X) (i : ℕ)
    → IsPartitionPoint (λ x. ltb (n x) t ≡ true) (λ x. ltb (n x) t ≡ false) xs i → IsPlace n t xs i
place-tested n t xs i point = (
  λ k d low high. ltb-below (n (get_or xs k d)) t (point.0 k d low high),
  λ k d low high. ltb-from (n (get_or xs k d)) t (point.1 k d low high),
)

-- two of one time stand at one place
pub same-place : {X : Type 0} (n : X → ℕ) (xs : List X) (i k : ℕ) (d : X) → AreInTime n xs → i < length xs → k < length xs → n (get_or xs i d) ≡ n (get_or xs k d) → i ≡ k
same-place n xs i k d rises first second same = elim (cases_order i k) [
  | inl at ↦ at
  | inr rest ↦ elim rest [
    | inl below ↦ let order = rises i k d below second in absurd (omega arith)
    | inr above ↦ let order = rises k i d above first in absurd (omega arith)
  ]
]

-- what has this time stands at its place
pub stands_at : {X : Type 0} (n : X → ℕ) (t : ℕ) (xs : List X) (i : ℕ) (x : X) → AreInTime n xs → IsPlace n t xs i → Contains xs x → n x ≡ t → (i < length xs) × (x ≡ get_or xs i x)
stands_at n t xs i x rises place has at =
    let within : has.0 < length xs = has.1 in
    let e : n (get_or xs has.0 x) ≡ n x = ap n has.2 in
    elim (cases_order has.0 i) [
      | inl same ↦ (omega arith, sym has.2 ∙ ap (λ j. get_or xs j x) same)
      | inr rest ↦ elim rest [
        | inl below ↦ let low : n (get_or xs has.0 x) < t = place.0 has.0 x (omega arith) below in absurd (omega arith)
        | inr above ↦
            let high : t ≤ n (get_or xs i x) = place.1 i x (omega arith) (omega arith) in
            let order : n (get_or xs i x) < n (get_or xs has.0 x) = rises i has.0 x above within in
            absurd (omega arith)
      ]
    ]

-- where its place has another time, nothing has it
pub none_at : {X : Type 0} (n : X → ℕ) (t : ℕ) (xs : List X) (i : ℕ) (x d : X) → AreInTime n xs → IsPlace n t xs i → Contains xs x → n x ≡ t → (i < length xs → n (get_or xs i d) ≡ t → ⊥) → ⊥
none_at n t xs i x d rises place has at other =
    let here = stands_at n t xs i x rises place has at in
    other here.0 (ap n (get_or_default xs i d x here.0 ∙ sym here.1) ∙ at)

-- ---- order

number_below : {X : Type 0} (n : X → ℕ) (xs : List X) (i : ℕ) (y d : X) (k : ℕ) → i ≤ length xs → k < i → n (get_or (insert xs i y) k d) ≡ n (get_or xs k d)
number_below n xs i y d k within h = ap n (get_or-insert_below xs i y d k h within)

number_at : {X : Type 0} (n : X → ℕ) (xs : List X) (i : ℕ) (y d : X) (k : ℕ) → i ≤ length xs → k ≡ i → n (get_or (insert xs i y) k d) ≡ n y
number_at n xs i y d k within h = ap (λ j. n (get_or (insert xs i y) j d)) h ∙ ap n (get_or-insert_at xs i y d within)

number_above : {X : Type 0} (n : X → ℕ) (xs : List X) (i : ℕ) (y d : X) (k : ℕ) → i ≤ length xs → i < k → n (get_or (insert xs i y) k d) ≡ n (get_or xs (k - 1) d)
number_above n xs i y d k within h =
    let back : k ≡ k - 1 + 1 = omega arith in
    ap (λ j. n (get_or (insert xs i y) j d)) back ∙ ap n (get_or-insert_above xs i y d (k - 1) (omega arith) within)

pub rises-insert : {X : Type 0} (n : X → ℕ) (xs : List X) (i : ℕ) (y : X) → AreInTime n xs → i ≤ length xs
    → ((k : ℕ) (d : X) → k < i → n (get_or xs k d) < n y) → ((k : ℕ) (d : X) → i ≤ k → k < length xs → n y < n (get_or xs k d)) → AreInTime n (insert xs i y)
rises-insert n xs i y rises within below above j k d order short =
    let len = length-insert xs i y within in
    elim (cases_order k i) [
      | inl at ↦
          let first = number_below n xs i y d j within (omega arith) in
          let second = number_at n xs i y d k within at in
          let lower = below j d (omega arith) in
          omega arith
      | inr rest ↦ elim rest [
        | inl low ↦
            let first = number_below n xs i y d j within (omega arith) in
            let second = number_below n xs i y d k within low in
            let lower = rises j k d order (omega arith) in
            omega arith
        | inr high ↦
            let second = number_above n xs i y d k within high in
            elim (cases_order j i) [
              | inl at ↦
                  let first = number_at n xs i y d j within at in
                  let lower = above (k - 1) d (omega arith) (omega arith) in
                  omega arith
              | inr side ↦ elim side [
                | inl low ↦
                    let first = number_below n xs i y d j within low in
                    let lower = rises j (k - 1) d (omega arith) (omega arith) in
                    omega arith
                | inr up ↦
                    let first = number_above n xs i y d j within up in
                    let lower = rises (j - 1) (k - 1) d (omega arith) (omega arith) in
                    omega arith
              ]
            ]
      ]
    ]

set-number : {X : Type 0} (n : X → ℕ) (xs : List X) (i : ℕ) (y d : X) (k : ℕ) → i < length xs → n (get_or xs i d) ≡ n y → n (get_or (set xs i y) k d) ≡ n (get_or xs k d)
set-number n xs i y d k within same = elim (cases_order k i) [
  | inl at ↦ ap (λ j. n (get_or (set xs i y) j d)) at ∙ ap n (get_or-set_same xs i y d within) ∙ sym same ∙ ap (λ j. n (get_or xs j d)) (sym at)
  | inr side ↦ ap n (get_or-set_other xs i k y d (elim side [ inl low ↦ omega arith | inr high ↦ omega arith ]))
]

pub rises-set : {X : Type 0} (n : X → ℕ) (xs : List X) (i : ℕ) (y : X) → AreInTime n xs → i < length xs → ((d : X) → n (get_or xs i d) ≡ n y) → AreInTime n (set xs i y)
rises-set n xs i y rises within same j k d order short =
    let len = length-set xs i y in
    let first = set-number n xs i y d j within (same d) in
    let second = set-number n xs i y d k within (same d) in
    let lower = rises j k d order (omega arith) in
    omega arith

pub All-insert : {X : Type 0} (P : X → Type 0) (xs : List X) (i : ℕ) (y : X) → P y → All P xs → All P (insert xs i y)
All-insert P xs i y one all = All-append P (take i xs) (y ∷ drop i xs) (All-take P i xs all) (All-cons P y (drop i xs) one (All-drop P i xs all))

pub All-remove : {X : Type 0} (P : X → Type 0) (xs : List X) (i : ℕ) → All P xs → All P (remove xs i)
All-remove P xs i all = All-append P (take i xs) (drop (suc i) xs) (All-take P i xs all) (All-drop P (suc i) xs all)

-- ---- members

pub cons-cases : {X : Type 0} (x : X) (xs : List X) (z : X) → Contains (x ∷ xs) z → (x ≡ z) ⊎ Contains xs z
cons-cases x xs z has = elim (Contains-append_cases (x ∷ []) xs z has) [
  | inl one ↦
      let first : one.0 ≡ 0 = omega (arith, one.1) in
      inl (sym (ap (λ k. get_or (x ∷ []) k z) first) ∙ one.2)
  | inr rest ↦ inr rest
]

pub cons-here : {X : Type 0} (x : X) (xs : List X) → Contains (x ∷ xs) x
cons-here x xs = (0, omega arith, refl)

-- a list has what stands before the rest of it, and else what the rest has
pub moved-cases : {X : Type 0} (xs rest : List X) (x z : X) → IsPermutation xs (x ∷ rest) → Contains xs z → (x ≡ z) ⊎ Contains rest z
moved-cases xs rest x z moved has = cons-cases x rest z (Contains-permutation xs (x ∷ rest) z moved has)

moved-rest : {X : Type 0} (xs rest : List X) (x z : X) → IsPermutation xs (x ∷ rest) → Contains rest z → Contains xs z
moved-rest xs rest x z moved has = Contains-permutation (x ∷ rest) xs z (IsPermutation-sym xs (x ∷ rest) moved) (Contains-append_right (x ∷ []) rest z has)

moved-here : {X : Type 0} (xs rest : List X) (x : X) → IsPermutation xs (x ∷ rest) → Contains xs x
moved-here xs rest x moved = Contains-permutation (x ∷ rest) xs x (IsPermutation-sym xs (x ∷ rest) moved) (cons-here x rest)

moved-other : {X : Type 0} (xs rest : List X) (x z : X) → IsPermutation xs (x ∷ rest) → x ≢ z → Contains xs z ↔ Contains rest z
moved-other xs rest x z moved other = (
  λ has. elim (moved-cases xs rest x z moved has) [ inl same ↦ absurd (other same) | inr in-rest ↦ in-rest ],
  moved-rest xs rest x z moved,
)

insert-moved : {X : Type 0} (xs : List X) (i : ℕ) (y : X) → IsPermutation (insert xs i y) (y ∷ xs)
insert-moved xs i y = IsPermutation-sym (y ∷ xs) (insert xs i y) (IsPermutation-insert xs i y)

pub insert-here : {X : Type 0} (xs : List X) (i : ℕ) (y : X) → Contains (insert xs i y) y
insert-here xs i y = moved-here (insert xs i y) xs y (insert-moved xs i y)

pub insert-cases : {X : Type 0} (xs : List X) (i : ℕ) (y z : X) → Contains (insert xs i y) z → (y ≡ z) ⊎ Contains xs z
insert-cases xs i y z = moved-cases (insert xs i y) xs y z (insert-moved xs i y)

pub insert-other : {X : Type 0} (xs : List X) (i : ℕ) (y z : X) → y ≢ z → Contains (insert xs i y) z ↔ Contains xs z
insert-other xs i y z other = moved-other (insert xs i y) xs y z (insert-moved xs i y) other

pub remove-some : {X : Type 0} (xs : List X) (i : ℕ) (x z : X) → i < length xs → x ≡ get_or xs i x → Contains (remove xs i) z → Contains xs z
remove-some xs i x z within at = moved-rest xs (remove xs i) x z (IsPermutation-remove xs i x within at)

pub remove-other : {X : Type 0} (xs : List X) (i : ℕ) (x z : X) → i < length xs → x ≡ get_or xs i x → x ≢ z → Contains (remove xs i) z ↔ Contains xs z
remove-other xs i x z within at other =
    let both = moved-other xs (remove xs i) x z (IsPermutation-remove xs i x within at) other in
    (both.1, both.0)

-- the time of what was removed is gone with it
pub remove-gone : {X : Type 0} (n : X → ℕ) (xs : List X) (i : ℕ) (x z : X) → AreInTime n xs → i < length xs → x ≡ get_or xs i x → Contains (remove xs i) z → n z ≢ n x
remove-gone n xs i x z rises within at has same =
    let len = length-remove xs i within in
    let short : has.0 < length (remove xs i) = has.1 in
    let e : n (get_or (remove xs i) has.0 z) ≡ n z = ap n has.2 in
    let here : n x ≡ n (get_or xs i z) = ap n (at ∙ get_or_default xs i x z within) in
    elim (cases_lt has.0 i) [
      | inl low ↦
          let own : n (get_or (remove xs i) has.0 z) ≡ n (get_or xs has.0 z) = ap n (get_or-remove_below xs i z has.0 low within) in
          let order = rises has.0 i z low within in
          omega arith
      | inr high ↦
          let own : n (get_or (remove xs i) has.0 z) ≡ n (get_or xs (has.0 + 1) z) = ap n (get_or-remove_above xs i z has.0 high within) in
          let order = rises i (has.0 + 1) z (omega arith) (omega arith) in
          omega arith
    ]

set-moved : {X : Type 0} (xs : List X) (i : ℕ) (y : X) → i < length xs → IsPermutation (set xs i y) (y ∷ remove xs i)
set-moved xs i y within =
    subst (λ l. IsPermutation l (y ∷ remove xs i)) (sym (set_split xs i y within)) (IsPermutation-middle (take i xs) y (drop (suc i) xs))

pub set-here : {X : Type 0} (xs : List X) (i : ℕ) (y : X) → i < length xs → Contains (set xs i y) y
set-here xs i y within = moved-here (set xs i y) (remove xs i) y (set-moved xs i y within)

pub set-other : {X : Type 0} (xs : List X) (i : ℕ) (x y z : X) → i < length xs → x ≡ get_or xs i x → x ≢ z → y ≢ z → Contains (set xs i y) z ↔ Contains xs z
set-other xs i x y z within at other new =
    let after = moved-other (set xs i y) (remove xs i) y z (set-moved xs i y within) new in
    let before = moved-other xs (remove xs i) x z (IsPermutation-remove xs i x within at) other in
    (λ has. before.1 (after.0 has), λ has. after.1 (before.0 has))

pub set-cases : {X : Type 0} (xs : List X) (i : ℕ) (x y z : X) → i < length xs → x ≡ get_or xs i x → Contains (set xs i y) z → (y ≡ z) ⊎ Contains xs z
set-cases xs i x y z within at has = elim (moved-cases (set xs i y) (remove xs i) y z (set-moved xs i y within) has) [
  | inl same ↦ inl same
  | inr rest ↦ inr (remove-some xs i x z within at rest)
]
