-- Lemmas on `in_time_order`.
use Rattle.std.proofs.Common.{◌≡◌, ◌<◌, ◌≤◌, ◌==◌, nat_le, ℕ, zero, suc, Bool, true, false, cond, List, [], ◌∷◌, length, get_or, refl, ◌∙◌, ap, arith}
use Rattle.std.specs.List.{AllByRecursion, filter}
use Rattle.std.specs.List.Sorted.{IsPermutation, IsNonDecreasingBy}
use Rattle.std.proofs.lemmas.List.Sorted.{IsPermutation-refl, IsPermutation-cons, IsPermutation-trans, IsPermutation-sym, IsPermutation-middle}
use Rattle.std.proofs.lemmas.Bool.{le-leb}
use Rattle.std.proofs.lemmas.Bool.Decides.{nat_tests}
use Rattle.std.proofs.lemmas.List.Elements.{recursion_from_All}
use Rattle.payload_merge.specs.Fold.{InstantWrites, insert_by_instant, in_time_order}
use Rattle.payload_merge.specs.Laws.{OrdersByTime, RisesStrictly}

-- ---- what already rises

stays_first : (b : InstantWrites) (bs : List InstantWrites) → AllByRecursion (λ later. b.instant < later.instant) bs → insert_by_instant b bs ≡ b ∷ bs
stays_first b [] h = refl
stays_first b (c ∷ cs) h = let e : nat_le b.instant c.instant ≡ true = le-leb b.instant c.instant (omega (arith, h.0)) in ap (λ t. cond t (b ∷ c ∷ cs) (c ∷ insert_by_instant b cs)) e

-- instants whose times strictly rise are in the order of time
pub in_time_order-rising : (instants : List InstantWrites) → RisesStrictly instants → in_time_order instants ≡ instants
in_time_order-rising [] h = refl
in_time_order-rising (b ∷ bs) h = ap (insert_by_instant b) (in_time_order-rising bs h.1) ∙ stays_first b bs (recursion_from_All _ bs h.0)

-- ---- the same instants

same_inserted : (b : InstantWrites) (bs : List InstantWrites) → IsPermutation (b ∷ bs) (insert_by_instant b bs)
same_inserted b [] = IsPermutation-refl _
same_inserted b (c ∷ cs) = by_test (nat_le b.instant c.instant) (same_inserted b cs)
  where
    by_test : (t : Bool) → IsPermutation (b ∷ cs) (insert_by_instant b cs) → IsPermutation (b ∷ c ∷ cs) (cond t (b ∷ c ∷ cs) (c ∷ insert_by_instant b cs))
    by_test true rest = IsPermutation-refl _
    by_test false rest = IsPermutation-trans _ _ _ (IsPermutation-sym _ _ (IsPermutation-middle (c ∷ []) b cs)) (IsPermutation-cons c _ _ rest)

same_instants : (bs : List InstantWrites) → IsPermutation bs (in_time_order bs)
same_instants [] = IsPermutation-refl _
same_instants (b ∷ bs) = IsPermutation-trans _ _ _ (IsPermutation-cons b _ _ (same_instants bs)) (same_inserted b (in_time_order bs))

-- ---- their times don't fall

abbrev From : ℕ → List InstantWrites → Type 0
From t bs = AllByRecursion (λ later. t ≤ later.instant) bs

abbrev Rises : List InstantWrites → Type 0
Rises [] = Unit {0}
Rises (b ∷ bs) = From b.instant bs × Rises bs

From-earlier : (t u : ℕ) (bs : List InstantWrites) → t ≤ u → From u bs → From t bs
From-earlier t u [] h f = tt
From-earlier t u (b ∷ bs) h f = (omega (arith, f.0), From-earlier t u bs h f.1)

From-inserted : (t : ℕ) (b : InstantWrites) (bs : List InstantWrites) → t ≤ b.instant → From t bs → From t (insert_by_instant b bs)
From-inserted t b [] h f = (h, tt)
From-inserted t b (c ∷ cs) h f = by_test (nat_le b.instant c.instant) (From-inserted t b cs h f.1)
  where
    by_test : (test : Bool) → From t (insert_by_instant b cs) → From t (cond test (b ∷ c ∷ cs) (c ∷ insert_by_instant b cs))
    by_test true rest = (h, f)
    by_test false rest = (f.0, rest)

Rises-inserted : (b : InstantWrites) (bs : List InstantWrites) → Rises bs → Rises (insert_by_instant b bs)
Rises-inserted b [] r = (tt, tt)
Rises-inserted b (c ∷ cs) r = by_test (nat_le b.instant c.instant) refl (Rises-inserted b cs r.1)
  where
    by_test : (test : Bool) → nat_le b.instant c.instant ≡ test → Rises (insert_by_instant b cs) → Rises (cond test (b ∷ c ∷ cs) (c ∷ insert_by_instant b cs))
    by_test true h rest = let le : b.instant ≤ c.instant = grind (arith, nat_tests) in ((le, From-earlier b.instant c.instant cs le r.0), r)
    by_test false h rest = let le : c.instant ≤ b.instant = grind (arith, nat_tests) in (From-inserted c.instant b cs le r.0, rest)

rises : (bs : List InstantWrites) → Rises (in_time_order bs)
rises [] = tt
rises (b ∷ bs) = Rises-inserted b (in_time_order bs) (rises bs)

From-at : (t : ℕ) (bs : List InstantWrites) (j : ℕ) (d : InstantWrites) → From t bs → j < length bs → t ≤ (get_or bs j d).instant
From-at t [] j d f h = absurd (omega arith)
From-at t (b ∷ bs) zero d f h = f.0
From-at t (b ∷ bs) (suc j) d f h = From-at t bs j d f.1 (omega arith)

never_falls : (bs : List InstantWrites) → Rises bs → IsNonDecreasingBy (λ each. each.instant) bs
never_falls [] r i j d le h = absurd (omega arith)
never_falls (b ∷ bs) r zero zero d le h = omega arith
never_falls (b ∷ bs) r zero (suc j) d le h = From-at b.instant bs j d r.0 (omega arith)
never_falls (b ∷ bs) r (suc i) zero d le h = absurd (omega arith)
never_falls (b ∷ bs) r (suc i) (suc j) d le h = never_falls bs r.1 i j d (omega arith) (omega arith)

-- ---- those of one instant stay as they came

filter-insert_by_instant : (t : ℕ) (b : InstantWrites) (bs : List InstantWrites) → filter (λ each. each.instant == t) (insert_by_instant b bs) ≡ filter (λ each. each.instant == t) (b ∷ bs)
filter-insert_by_instant t b [] = refl
filter-insert_by_instant t b (c ∷ cs) = by_test (nat_le b.instant c.instant) refl (filter-insert_by_instant t b cs)
  where
    swapped : (x y : Bool) → b.instant == t ≡ x → c.instant == t ≡ y → nat_le b.instant c.instant ≡ false → (rest : List InstantWrites)
        → cond y (c ∷ cond x (b ∷ rest) rest) (cond x (b ∷ rest) rest) ≡ cond x (b ∷ cond y (c ∷ rest) rest) (cond y (c ∷ rest) rest)
    swapped true true p q h rest = absurd (grind (arith, nat_tests))
    swapped true false p q h rest = refl
    swapped false true p q h rest = refl
    swapped false false p q h rest = refl

    by_test : (test : Bool) → nat_le b.instant c.instant ≡ test
        → filter (λ each. each.instant == t) (insert_by_instant b cs) ≡ filter (λ each. each.instant == t) (b ∷ cs)
        → filter (λ each. each.instant == t) (cond test (b ∷ c ∷ cs) (c ∷ insert_by_instant b cs)) ≡ filter (λ each. each.instant == t) (b ∷ c ∷ cs)
    by_test true h rest = refl
    by_test false h rest = ap (λ kept. cond (c.instant == t) (c ∷ kept) kept) rest ∙ swapped (b.instant == t) (c.instant == t) refl refl h (filter (λ each. each.instant == t) cs)

filter-in_time_order : (t : ℕ) (bs : List InstantWrites) → filter (λ each. each.instant == t) (in_time_order bs) ≡ filter (λ each. each.instant == t) bs
filter-in_time_order t [] = refl
filter-in_time_order t (b ∷ bs) = filter-insert_by_instant t b (in_time_order bs) ∙ ap (λ kept. cond (b.instant == t) (b ∷ kept) kept) (filter-in_time_order t bs)

pub orders_by_time : (instants : List InstantWrites) → OrdersByTime instants (in_time_order instants)
orders_by_time instants = record {
  same = same_instants instants;
  rising = never_falls (in_time_order instants) (rises instants);
  stable = λ t. filter-in_time_order t instants;
}
