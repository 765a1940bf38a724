-- Groups that run on from one to the next are a tiling, and where groups in order don't, the test finds the least slot.
use Rattle.std.proofs.Common.{◌≡◌, ◌≢◌, ◌⊎◌, inl, inr, ℕ, zero, suc, ◌+◌, ◌-◌, ◌<◌, ◌≤◌, min, true, false, cond, List, [], ◌∷◌, ◌++◌, length, get_or, Some, None, not, filter, refl, sym, ◌∙◌, ap, leb, leb-true, sub-one, add-one, drop, arith}
use Rattle.std.proofs.lemmas.Bool.Decides.{nat_tests}
use Rattle.std.proofs.Math.Seq.{drop-cons}
use Rattle.std.proofs.lemmas.List.{drop_all}
use Rattle.std.proofs.lemmas.List.Elements.{All-append, All-filter}
use Rattle.std.proofs.lemmas.List.Sorted.{All-permutation, sum_by-IsPermutation}
use Rattle.std.proofs.lemmas.List.Sums.{length-filter}
use Rattle.std.specs.List.Sorted.{IsPermutation, IsPartitionPoint}
use Rattle.std.specs.Prelude.{nat_lt, if◌then◌else◌}
use Rattle.hudi_base.specs.declared.file_group.GroupRef.{GroupRef}
use Rattle.key_index.specs.Slots.{slot_count}
use Rattle.key_index.specs.Tiling.{has_slot, has_slots, groups_at, AreInOrder, IsTiling, IsLeastMistiled, without, is_among}
use Rattle.key_index.specs.TileRuns.{RunsOn, least_mistiled}
use Rattle.key_index.proofs.GroupLists.{HaveSlots, has_slot-within, has_slot-below, has_slot-above, groups_at-nil, groups_at-yes, groups_at-no, groups_at-below, order-rest, groups_at-before_first, filter-have_slots}

pub run-first : (next : ℕ) (g : GroupRef) (gs : List GroupRef) → RunsOn next (g ∷ gs) → g.lo ≡ next
unfolding RunsOn
run-first next g gs run = run.0

pub run-has_slots : (next : ℕ) (g : GroupRef) (gs : List GroupRef) → RunsOn next (g ∷ gs) → g.lo ≤ g.hi
unfolding RunsOn
run-has_slots next g gs run = run.1

pub run-rest : (next : ℕ) (g : GroupRef) (gs : List GroupRef) → RunsOn next (g ∷ gs) → RunsOn (g.hi + 1) gs
unfolding RunsOn
run-rest next g gs run = run.2

pub run-end : (next : ℕ) → RunsOn next [] → slot_count ≤ next
unfolding RunsOn
run-end next run = run

-- no group of a run begins below its beginning
pub run-from : (next : ℕ) (gs : List GroupRef) → RunsOn next gs → (j : ℕ) (d : GroupRef) → j < length gs → next ≤ (get_or gs j d).lo
run-from next [] run j d h = absurd (omega arith)
run-from next (g ∷ gs) run zero d h = let first = run-first next g gs run in omega arith
run-from next (g ∷ gs) run (suc j) d h =
    let first = run-first next g gs run in
    let has = run-has_slots next g gs run in
    let rest = run-from (g.hi + 1) gs (run-rest next g gs run) j d (omega arith) in
    omega arith

pub run-order : (next : ℕ) (gs : List GroupRef) → RunsOn next gs → AreInOrder gs
run-order next [] run i j d le h = absurd (omega arith)
run-order next (g ∷ gs) run zero j d le h = let first = run-first next g gs run in let from = run-from next (g ∷ gs) run j d h in omega arith
run-order next (g ∷ gs) run (suc i) zero d le h = absurd (omega arith)
run-order next (g ∷ gs) run (suc i) (suc j) d le h = run-order (g.hi + 1) gs (run-rest next g gs run) i j d (omega arith) (omega arith)

-- a run has no slot below its beginning
pub run-before : (next : ℕ) (gs : List GroupRef) → RunsOn next gs → (slot : ℕ) → slot < next → groups_at slot gs ≡ []
run-before next gs run slot low = groups_at-below slot gs (λ j d h. let from = run-from next gs run j d h in omega arith)

pub le-or-above : (a b : ℕ) → (a ≤ b) ⊎ (b < a)
le-or-above zero b = inl (omega arith)
le-or-above (suc a) zero = inr (omega arith)
le-or-above (suc a) (suc b) = elim (le-or-above a b) [ inl h ↦ inl (omega arith) | inr h ↦ inr (omega arith) ]

-- a run has each slot from its beginning on once
pub run-once : (next : ℕ) (gs : List GroupRef) → RunsOn next gs → (slot : ℕ) → next ≤ slot → slot < slot_count → length (groups_at slot gs) ≡ 1
run-once next [] run slot low high = let end = run-end next run in absurd (omega arith)
run-once next (g ∷ gs) run slot low high =
    let first = run-first next g gs run in
    elim (le-or-above slot g.hi) [
      | inl h ↦
          ap length (groups_at-yes slot g gs (has_slot-within g slot (omega arith) h)
          ∙ ap (λ rest. g ∷ rest) (run-before (g.hi + 1) gs (run-rest next g gs run) slot (omega arith)))
      | inr h ↦
          ap length (groups_at-no slot g gs (has_slot-above g slot h))
          ∙ run-once (g.hi + 1) gs (run-rest next g gs run) slot (omega arith) high
    ]

pub run-tiling : (gs : List GroupRef) → RunsOn 0 gs → IsTiling gs
run-tiling gs run slot high = run-once 0 gs run slot (omega arith) high

-- the last group of a run that begins at a slot or below has it, alone
pub run-group : (next : ℕ) (gs : List GroupRef) → RunsOn next gs → (slot : ℕ) → slot < slot_count → (k : ℕ) (d : GroupRef) → k < length gs
    → (get_or gs k d).lo ≤ slot → ((j : ℕ) → k < j → j < length gs → slot < (get_or gs j d).lo)
    → groups_at slot gs ≡ get_or gs k d ∷ []
run-group next [] run slot high k d h low above = absurd (omega arith)
run-group next (g ∷ []) run slot high zero d h low above =
    let end = run-end (g.hi + 1) (run-rest next g [] run) in
    groups_at-yes slot g [] (has_slot-within g slot low (omega arith)) ∙ ap (λ rest. g ∷ rest) (groups_at-nil slot)
run-group next (g ∷ (k ∷ gs)) run slot high zero d h low above =
    let rest = run-rest next g (k ∷ gs) run in
    let second = run-first (g.hi + 1) k gs rest in
    let over : slot < k.lo = above 1 (omega arith) (omega arith) in
    groups_at-yes slot g (k ∷ gs) (has_slot-within g slot low (omega arith))
    ∙ ap (λ others. g ∷ others) (run-before (g.hi + 1) (k ∷ gs) rest slot (omega arith))
run-group next (g ∷ gs) run slot high (suc k) d h low above =
    let rest = run-rest next g gs run in
    let from = run-from (g.hi + 1) gs rest k d (omega arith) in
    groups_at-no slot g gs (has_slot-above g slot (omega arith))
    ∙ run-group (g.hi + 1) gs rest slot high k d (omega arith) low (λ j above_k h_j. above (suc j) (omega arith) (omega arith))

-- ---- the test

pub mistiled-end : (next : ℕ) → next < slot_count → least_mistiled next [] ≡ Some next
unfolding least_mistiled
mistiled-end next h = grind (arith, nat_tests)

pub mistiled-end_none : (next : ℕ) → slot_count ≤ next → least_mistiled next [] ≡ None
unfolding least_mistiled
mistiled-end_none next h = grind (arith, nat_tests)

pub mistiled-same : (next : ℕ) (g : GroupRef) (gs : List GroupRef) → g.lo ≡ next → least_mistiled next (g ∷ gs) ≡ least_mistiled (g.hi + 1) gs
unfolding least_mistiled
mistiled-same next g gs e = grind (arith, nat_tests, e)

pub mistiled-other : (next : ℕ) (g : GroupRef) (gs : List GroupRef) → g.lo ≢ next → least_mistiled next (g ∷ gs) ≡ Some (min next g.lo)
unfolding least_mistiled
mistiled-other next g gs ne = grind (arith, nat_tests, ne)

pub eq-or-other : (a b : ℕ) → (a ≡ b) ⊎ (a ≢ b)
eq-or-other zero zero = inl refl
eq-or-other zero (suc b) = inr (λ e. absurd (omega arith))
eq-or-other (suc a) zero = inr (λ e. absurd (omega arith))
eq-or-other (suc a) (suc b) = elim (eq-or-other a b) [ inl e ↦ inl (ap suc e) | inr ne ↦ inr (λ e. ne (omega arith)) ]

-- where it finds nothing, the groups run on
pub runs-from_none : (next : ℕ) (gs : List GroupRef) → HaveSlots gs → least_mistiled next gs ≡ None → RunsOn next gs
unfolding RunsOn
runs-from_none next [] all none =
    elim (le-or-above slot_count next) [ inl h ↦ h | inr h ↦ let some = mistiled-end next h in cc ]
runs-from_none next (g ∷ gs) all none =
    elim (eq-or-other g.lo next) [
      | inl e ↦ (e, all 0 g (omega arith), runs-from_none (g.hi + 1) gs (λ k d h. all (suc k) d (omega arith)) (sym (mistiled-same next g gs e) ∙ none))
      | inr ne ↦ let some = mistiled-other next g gs ne in cc
    ]

-- how often a slot is had, where those below `next` are had once by groups before
covered : ℕ → ℕ → List GroupRef → ℕ
covered next slot gs = (if nat_lt slot next then 1 else 0) + length (groups_at slot gs)

covered-low : (next slot : ℕ) (gs : List GroupRef) → slot < next → covered next slot gs ≡ 1 + length (groups_at slot gs)
unfolding covered
covered-low next slot gs h = grind (arith, nat_tests)

covered-high : (next slot : ℕ) (gs : List GroupRef) → next ≤ slot → covered next slot gs ≡ length (groups_at slot gs)
unfolding covered
covered-high next slot gs h = grind (arith, nat_tests)

covered-next : (next slot : ℕ) (g : GroupRef) (gs : List GroupRef) → g.lo ≡ next → g.lo ≤ g.hi → covered next slot (g ∷ gs) ≡ covered (g.hi + 1) slot gs
covered-next next slot g gs e has = elim (le-or-above next slot) [
  | inl from ↦ elim (le-or-above slot g.hi) [
    | inl to ↦
        covered-high next slot (g ∷ gs) from
        ∙ ap length (groups_at-yes slot g gs (has_slot-within g slot (omega arith) to))
        ∙ (let low = covered-low (g.hi + 1) slot gs (omega arith) in omega arith)
    | inr above ↦
        covered-high next slot (g ∷ gs) from
        ∙ ap length (groups_at-no slot g gs (has_slot-above g slot above))
        ∙ sym (covered-high (g.hi + 1) slot gs (omega arith))
  ]
  | inr below ↦
      covered-low next slot (g ∷ gs) below
      ∙ ap (λ rest. 1 + length rest) (groups_at-no slot g gs (has_slot-below g slot (omega arith)))
      ∙ sym (covered-low (g.hi + 1) slot gs (omega arith))
]

-- what the test says of its slot, where those below `next` are had once by groups before
record GoesWrong (next : ℕ) (gs : List GroupRef) (slot : ℕ) : Type 0 where
  not_once : covered next slot gs ≢ 1
  least : (lower : ℕ) → lower < slot → covered next lower gs ≡ 1

wrong-first : (next : ℕ) (g : GroupRef) (gs : List GroupRef) → AreInOrder (g ∷ gs) → g.lo ≤ g.hi → g.lo ≢ next → GoesWrong next (g ∷ gs) (min next g.lo)
wrong-first next g gs order has other = elim (le-or-above next g.lo) [
  | inl h ↦ rw (min_left next g.lo h) (record {
    not_once = λ once.
        let high = covered-high next next (g ∷ gs) (omega arith) in
        let none = ap length (groups_at-before_first next g gs order (let strict : next < g.lo = strictly next g.lo h other in strict)) in
        omega arith;
    least = λ lower low.
        covered-low next lower (g ∷ gs) low ∙ ap (λ found. 1 + length found) (groups_at-before_first lower g gs order (omega arith));
  })
  | inr h ↦ rw (min_right next g.lo h) (record {
    not_once = λ once.
        let low = covered-low next g.lo (g ∷ gs) h in
        let some = ap length (groups_at-yes g.lo g gs (has_slot-within g g.lo (omega arith) has)) in
        omega arith;
    least = λ lower low.
        covered-low next lower (g ∷ gs) (omega arith) ∙ ap (λ found. 1 + length found) (groups_at-before_first lower g gs order low);
  })
]
  where
    min_left : (a b : ℕ) → a ≤ b → min a b ≡ a
    min_left a b h = grind (arith, nat_tests)

    min_right : (a b : ℕ) → b < a → min a b ≡ b
    min_right a b h = grind (arith, nat_tests)

    strictly : (a b : ℕ) → a ≤ b → b ≢ a → a < b
    strictly a b h ne = elim (le-or-above b a) [ inl le ↦ absurd (ne (omega arith)) | inr lt ↦ lt ]

goes_wrong : (next : ℕ) (gs : List GroupRef) → AreInOrder gs → HaveSlots gs → (slot : ℕ) → least_mistiled next gs ≡ Some slot → GoesWrong next gs slot
goes_wrong next [] order all slot some = elim (le-or-above slot_count next) [
  | inl h ↦ let none = mistiled-end_none next h in cc
  | inr h ↦
      let e : slot ≡ next = let own = mistiled-end next h in cc in
      rw e (record {
        not_once = λ once. let high = covered-high next next [] (omega arith) in let none = ap length (groups_at-nil next) in omega arith;
        least = λ lower low. covered-low next lower [] low ∙ ap (λ found. 1 + length found) (groups_at-nil lower);
      })
]
goes_wrong next (g ∷ gs) order all slot some = elim (eq-or-other g.lo next) [
  | inl e ↦
      let has : g.lo ≤ g.hi = all 0 g (omega arith) in
      let wrong = goes_wrong (g.hi + 1) gs (order-rest g gs order) (λ k d h. all (suc k) d (omega arith)) slot (sym (mistiled-same next g gs e) ∙ some) in
      record {
        not_once = λ once. wrong.not_once (sym (covered-next next slot g gs e has) ∙ once);
        least = λ lower low. covered-next next lower g gs e has ∙ wrong.least lower low;
      }
  | inr ne ↦
      let e : slot ≡ min next g.lo = let own = mistiled-other next g gs ne in cc in
      rw e (wrong-first next g gs order (all 0 g (omega arith)) ne)
]

pub mistiled-least : (gs : List GroupRef) → AreInOrder gs → HaveSlots gs → (slot : ℕ) → slot < slot_count → least_mistiled 0 gs ≡ Some slot → IsLeastMistiled gs slot
mistiled-least gs order all slot range some =
    let wrong = goes_wrong 0 gs order all slot some in
    record {
      in_range = range;
      not_once = λ once. wrong.not_once (covered-high 0 slot gs (omega arith) ∙ once);
      least = λ lower low. sym (covered-high 0 lower gs (omega arith)) ∙ wrong.least lower low;
    }

-- ---- a list in another order

pub groups_at-permutation : (gs hs : List GroupRef) → IsPermutation gs hs → (slot : ℕ) → length (groups_at slot hs) ≡ length (groups_at slot gs)
unfolding groups_at
groups_at-permutation gs hs moved slot =
    length-filter (λ group. has_slot group slot) hs
    ∙ sum_by-IsPermutation (λ group. cond (has_slot group slot) 1 0) gs hs moved
    ∙ sym (length-filter (λ group. has_slot group slot) gs)

pub tiling-permutation : (gs hs : List GroupRef) → IsPermutation gs hs → IsTiling hs → IsTiling gs
tiling-permutation gs hs moved tiling slot high = sym (groups_at-permutation gs hs moved slot) ∙ tiling slot high

pub mistiled-permutation : (gs hs : List GroupRef) → IsPermutation gs hs → (slot : ℕ) → IsLeastMistiled hs slot → IsLeastMistiled gs slot
mistiled-permutation gs hs moved slot wrong = record {
  in_range = wrong.in_range;
  not_once = λ once. wrong.not_once (groups_at-permutation gs hs moved slot ∙ once);
  least = λ lower low. sym (groups_at-permutation gs hs moved lower) ∙ wrong.least lower low;
}

pub run-have_slots : (next : ℕ) (gs : List GroupRef) → RunsOn next gs → HaveSlots gs
run-have_slots next [] run k d h = absurd (omega arith)
run-have_slots next (g ∷ gs) run zero d h = run-has_slots next g gs run
run-have_slots next (g ∷ gs) run (suc k) d h = run-have_slots (g.hi + 1) gs (run-rest next g gs run) k d (omega arith)

-- the groups after a replacement have slots
pub after-have_slots : (gs old new after : List GroupRef) → RunsOn 0 gs → IsPermutation (without old gs ++ filter has_slots new) after → HaveSlots after
after-have_slots gs old new after run moved =
    All-permutation (λ g. g.lo ≤ g.hi) _ _ moved
    (All-append (λ g. g.lo ≤ g.hi) _ _
    (All-filter (λ group. not (is_among old group)) (λ g. g.lo ≤ g.hi) gs (run-have_slots 0 gs run))
    (filter-have_slots new))

-- ---- a search

leb-false : (a b : ℕ) → leb a b ≡ false → b < a
leb-false a b e = grind (arith, nat_tests)

-- where the groups up to an index are those that begin at a slot or below, the last of them has it
pub run-point : (gs : List GroupRef) → RunsOn 0 gs → (slot : ℕ) → slot < slot_count → (i : ℕ)
    → IsPartitionPoint (λ (g : GroupRef). leb g.lo slot ≡ true) (λ (g : GroupRef). leb g.lo slot ≡ false) gs i → i ≤ length gs
    → (1 ≤ i) × ((d : GroupRef) → groups_at slot gs ≡ get_or gs (i - 1) d ∷ [])
run-point gs run slot high (suc i) point le = (
  omega arith,
  λ d. rw sub-one (run-group 0 gs run slot high i d (omega arith)
      (leb-true _ _ (point.0 i d (omega arith) (omega arith)))
      (λ j above short. leb-false _ _ (point.1 j d (omega arith) short))),
)
run-point [] run slot high zero point le = let end = run-end 0 run in absurd (omega arith)
run-point (g ∷ gs) run slot high zero point le =
    let first = run-first 0 g gs run in
    let over = leb-false _ _ (point.1 0 g (omega arith) (omega arith)) in
    absurd (omega arith)

-- ---- the test's loop

pub mistiled-at : (next i : ℕ) (g : GroupRef) (gs : List GroupRef) → i < length gs → g ≡ get_or gs i g → least_mistiled next (drop i gs) ≡ least_mistiled next (g ∷ drop (i + 1) gs)
mistiled-at next i g gs short e =
    let cut : drop i gs ≡ get_or gs i g ∷ drop (i + 1) gs = rw add-one (drop-cons gs i g short) in
    ap (least_mistiled next) cut ∙ ap (λ first. least_mistiled next (first ∷ drop (i + 1) gs)) (sym e)

pub mistiled-over : (next i : ℕ) (gs : List GroupRef) → length gs ≤ i → least_mistiled next (drop i gs) ≡ least_mistiled next []
mistiled-over next i gs long = ap (least_mistiled next) (drop_all i gs long)
