-- Which group of the first tiling a slot has, and which groups are among them.
use Rattle.std.proofs.Common.{◌≡◌, ℕ, zero, suc, ◌+◌, ◌-◌, ◌^◌, ◌<◌, ◌≤◌, Bool, true, false, cond, ◌&&◌, List, [], ◌∷◌, get_or, length, map, refl, sym, ap, ◌∙◌, subst, arith}
use Rattle.std.specs.Prelude.{◌==◌, ◌||◌}
use Rattle.std.specs.List.{range_with_len, All, AllByRecursion}
use Rattle.std.specs.Str.{bytes_eq}
use Rattle.std.proofs.lemmas.Bool.Decides.{nat_tests}
use Rattle.std.proofs.lemmas.List.FromFn.{get_or-map-range_with_len, length-map-range_with_len}
use Rattle.std.proofs.lemmas.List.Elements.{All-head, All-tail, All-map}
use Rattle.std.proofs.lemmas.Slice.Eq.{bytes_eq-Decides}
use Rattle.hudi_base.specs.InstantTime.{first_time}
use Rattle.hudi_base.specs.declared.file_group.GroupRef.{GroupRef}
use Rattle.key_index.specs.Slots.{slot_count}
use Rattle.key_index.specs.Tiling.{IsBuckets, IsTiling, has_slot, groups_at, first_start, first_group, first_groups, is_same_group, is_among}
use Rattle.key_index.proofs.FirstGroups.{first-run, start-rises, start-whole}
use Rattle.key_index.proofs.GroupLists.{has_slot-within}
use Rattle.key_index.proofs.TileRunLemmas.{run-group, run-have_slots, run-tiling}

-- ---- the group of a slot

le-same : (m n : ℕ) → m ≡ n → m ≤ n
le-same m n same = omega (arith, same)

starts-rise : (buckets i n : ℕ) → 0 < buckets → buckets ≤ slot_count → first_start buckets i ≤ first_start buckets (i + n)
starts-rise buckets i zero some most = let same : first_start buckets i ≡ first_start buckets (i + 0) = ap (first_start buckets) (omega arith) in le-same _ _ same
starts-rise buckets i (suc n) some most =
    let before = starts-rise buckets i n some most in
    let more = start-rises buckets (i + n) some most in
    let next : first_start buckets (i + n + 1) ≡ first_start buckets (i + suc n) = ap (first_start buckets) (omega arith) in
    omega (arith, next)

starts-order : (buckets i j : ℕ) → 0 < buckets → buckets ≤ slot_count → i ≤ j → first_start buckets i ≤ first_start buckets j
starts-order buckets i j some most le =
    let far : i + (j - i) ≡ j = omega arith in
    let rise = starts-rise buckets i (j - i) some most in
    let same = ap (first_start buckets) far in
    omega (arith, same)

pub first-of_slot : (partition : List ℕ) (buckets i slot : ℕ) → 1 ≤ buckets → buckets ≤ 1024 → i < buckets → first_start buckets i ≤ slot → slot < first_start buckets (i + 1)
    → groups_at slot (first_groups partition buckets) ≡ first_group partition buckets i ∷ []
unfolding first_groups
first-of_slot partition buckets i slot some most short low high =
    let d = first_group partition buckets i in
    let gs = map (first_group partition buckets) (range_with_len 0 buckets) in
    let long : length gs ≡ buckets = length-map-range_with_len (first_group partition buckets) 0 buckets in
    let at : (j : ℕ) (d : GroupRef) → j < buckets → get_or gs j d ≡ first_group partition buckets j =
    λ j d h. get_or-map-range_with_len (first_group partition buckets) 0 buckets j j d h (omega arith) in
    let here = at i d short in
    let top = starts-order buckets (i + 1) buckets (omega arith) (omega arith) (omega arith) in
    let whole = start-whole buckets (omega arith) in
    run-group 0 gs (first-run partition buckets some most) slot (omega (arith, whole, top)) i d (omega (arith, long))
    (let begins = ap (λ (g : GroupRef). g.lo) here in omega (arith, begins))
    (λ j above h.
    let there = ap (λ (g : GroupRef). g.lo) (at j d (omega (arith, long))) in
    let order = starts-order buckets (i + 1) j (omega arith) (omega arith) (omega arith) in
    omega (arith, there, order))
    ∙ ap (λ g. g ∷ []) here

-- ---- the same group

both : (a b : Bool) → (a && b) ≡ true → (a ≡ true) × (b ≡ true)
both true b h = (refl, h)
both false b h = (h, cc)

number-is : (m n : ℕ) → (m == n) ≡ true → m ≡ n
number-is m n h = grind (arith, nat_tests)

number-same : (n : ℕ) → (n == n) ≡ true
number-same n = grind (arith, nat_tests)

pub same-is : (g h : GroupRef) → is_same_group g h ≡ true → g ≡ h
same-is g h same =
    let first = both _ _ same in
    let second = both _ _ first.1 in
    let third = both _ _ second.1 in
    is_record (bytes_is g.partition h.partition first.0) (number-is g.lo h.lo second.0) (number-is g.hi h.hi third.0) (number-is g.born h.born third.1)
  where
    is_record : g.partition ≡ h.partition → g.lo ≡ h.lo → g.hi ≡ h.hi → g.born ≡ h.born → g ≡ h
    is_record p l u b = λ i. record { partition = p i; lo = l i; hi = u i; born = b i }

    bytes_is : (a b : List ℕ) → bytes_eq a b ≡ true → a ≡ b
    bytes_is a b same = (bytes_eq-Decides a b).0 same

pub bytes-same : (bytes : List ℕ) → bytes_eq bytes bytes ≡ true
bytes-same bytes = (bytes_eq-Decides bytes bytes).1 refl

pub same-itself : (g : GroupRef) → is_same_group g g ≡ true
same-itself g = all (bytes-same g.partition) (number-same g.lo) (number-same g.hi) (number-same g.born)
  where
    all : {a b c d : Bool} → a ≡ true → b ≡ true → c ≡ true → d ≡ true → (a && (b && (c && d))) ≡ true
    all a b c d = cc

-- ---- among groups

-- the groups among those that have a slot
pub among-at : (slot : ℕ) (gs : List GroupRef) (g : GroupRef) → is_among (groups_at slot gs) g ≡ (is_among gs g && has_slot g slot)
unfolding groups_at
among-at slot [] g = refl
among-at slot (x ∷ gs) g = by_test (is_same_group g x) (has_slot x slot) refl refl (among-at slot gs g)
  where
    and_false : (a b : Bool) → b ≡ false → (a && b) ≡ false
    and_false true b h = h
    and_false false b h = refl

    if_kept : (b y : Bool) → is_same_group g x ≡ b → (is_same_group g x ≡ true → has_slot g slot ≡ true) → (is_same_group g x || (y && has_slot g slot)) ≡ ((is_same_group g x || y) && has_slot g slot)
    if_kept true y same has = let has' = has same in cc
    if_kept false y same has = cc

    if_left : (b y : Bool) → is_same_group g x ≡ b → (is_same_group g x ≡ true → has_slot g slot ≡ false) → (y && has_slot g slot) ≡ ((is_same_group g x || y) && has_slot g slot)
    if_left true y same lacks = let lacks' = lacks same in and_false y (has_slot g slot) lacks' ∙ sym (and_false (is_same_group g x || y) (has_slot g slot) lacks')
    if_left false y same lacks = cc

    by_test : (b c : Bool) → is_same_group g x ≡ b → has_slot x slot ≡ c → is_among (groups_at slot gs) g ≡ (is_among gs g && has_slot g slot)
        → is_among (cond c (x ∷ groups_at slot gs) (groups_at slot gs)) g ≡ ((is_same_group g x || is_among gs g) && has_slot g slot)
    by_test b true same has others =
        ap (λ y. is_same_group g x || y) others ∙ if_kept b (is_among gs g) same (λ y. ap (λ (z : GroupRef). has_slot z slot) (same-is g x y) ∙ has)
    by_test b false same lacks others =
        others ∙ if_left b (is_among gs g) same (λ y. ap (λ (z : GroupRef). has_slot z slot) (same-is g x y) ∙ lacks)

-- where one group has the slot
pub among-one : (slot : ℕ) (gs : List GroupRef) (one g : GroupRef) → groups_at slot gs ≡ one ∷ [] → is_same_group g one ≡ (is_among gs g && has_slot g slot)
among-one slot gs one g is = or_false (is_same_group g one) ∙ sym (ap (λ found. is_among found g) is) ∙ among-at slot gs g
  where
    or_false : (b : Bool) → b ≡ (b || false)
    or_false true = refl
    or_false false = refl

-- what holds of each
pub among-all : (P : GroupRef → Type 0) (gs : List GroupRef) (g : GroupRef) → All P gs → is_among gs g ≡ true → P g
among-all P [] g all among = cc
among-all P (x ∷ gs) g all among = by_test (is_same_group g x) refl (among-all P gs g (All-tail P x gs all))
  where
    rest : (b c : Bool) → b ≡ false → (b || c) ≡ true → c ≡ true
    rest b c differs some = cc

    by_test : (b : Bool) → is_same_group g x ≡ b → (is_among gs g ≡ true → P g) → P g
    by_test true same later = subst P (sym (same-is g x same)) (All-head P x gs all)
    by_test false other later = later (rest (is_same_group g x) (is_among gs g) other among)

pub first-has_slots : (buckets : ℕ) (g : GroupRef) → 1 ≤ buckets → buckets ≤ 1024 → is_among (first_groups g.partition buckets) g ≡ true → g.lo ≤ g.hi
first-has_slots buckets g some most among =
    among-all (λ (h : GroupRef). h.lo ≤ h.hi) (first_groups g.partition buckets) g (run-have_slots 0 (first_groups g.partition buckets) (first-run g.partition buckets some most)) among

-- their slots and their birth
pub record IsFirstGroup (g : GroupRef) : Type 0 where
  pub lo : g.lo < 2 ^ 16
  pub hi : g.hi < 2 ^ 16
  pub born : g.born ≡ first_time

first-within : (partition : List ℕ) (buckets i : ℕ) → IsBuckets buckets → i < buckets → IsFirstGroup (first_group partition buckets i)
first-within partition buckets i fit short =
    let rises = start-rises buckets i (omega (arith, fit.0)) (omega (arith, fit.1)) in
    let top = starts-order buckets (i + 1) buckets (omega (arith, fit.0)) (omega (arith, fit.1)) (omega arith) in
    let whole = start-whole buckets (omega (arith, fit.0)) in
    record { lo = omega (arith, rises, top, whole); hi = omega (arith, rises, top, whole); born = refl }

first-all : (partition : List ℕ) (buckets : ℕ) → IsBuckets buckets → All IsFirstGroup (first_groups partition buckets)
unfolding first_groups
first-all partition buckets fit = λ k d short.
    let long : length (map (first_group partition buckets) (range_with_len 0 buckets)) ≡ buckets = length-map-range_with_len (first_group partition buckets) 0 buckets in
    let within : k < buckets = omega (arith, short, long) in
    subst IsFirstGroup (sym (get_or-map-range_with_len (first_group partition buckets) 0 buckets k k d within (omega arith))) (first-within partition buckets k fit within)

pub first-is : (buckets : ℕ) (g : GroupRef) → IsBuckets buckets → is_among (first_groups g.partition buckets) g ≡ true → IsFirstGroup g
first-is buckets g fit among = among-all IsFirstGroup (first_groups g.partition buckets) g (first-all g.partition buckets fit) among

pub first-born : (buckets : ℕ) (g : GroupRef) → is_among (first_groups g.partition buckets) g ≡ true → g.born ≡ first_time
unfolding first_groups
first-born buckets g among =
    among-all (λ (h : GroupRef). h.born ≡ first_time) (first_groups g.partition buckets) g
    (All-map (λ (h : GroupRef). h.born ≡ first_time) (first_group g.partition buckets) (range_with_len 0 buckets) (λ k d short. refl)) among

-- all of them, one by one
pub each-among : (P : GroupRef → Type 0) (gs : List GroupRef) → ((g : GroupRef) → is_among gs g ≡ true → P g) → AllByRecursion P gs
each-among P [] each = tt
each-among P (x ∷ gs) each =
    (each x (ap (λ b. b || is_among gs x) (same-itself x)), each-among P gs (λ g among. each g (ap (λ b. is_same_group g x || b) among ∙ or_true (is_same_group g x))))
  where
    or_true : (b : Bool) → (b || true) ≡ true
    or_true true = refl
    or_true false = refl

-- each slot has one of them
pub first-tiling : (partition : List ℕ) (buckets : ℕ) → IsBuckets buckets → IsTiling (first_groups partition buckets)
first-tiling partition buckets fit = run-tiling (first_groups partition buckets) (first-run partition buckets fit.0 fit.1)

-- the test of a group by the range of its first slot
pub first-tested : (buckets lo hi : ℕ) (g : GroupRef) → 1 ≤ buckets → buckets ≤ 1024
    → ((partition : List ℕ) → groups_at g.lo (first_groups partition buckets) ≡ record { partition = partition; lo = lo; hi = hi; born = first_time } ∷ [])
    → ((g.lo == lo) && ((g.hi == hi) && (g.born == first_time))) ≡ is_among (first_groups g.partition buckets) g
first-tested buckets lo hi g some most one =
    let gs = first_groups g.partition buckets in
    let t : GroupRef = record { partition = g.partition; lo = lo; hi = hi; born = first_time } in
    ap (λ b. b && ((g.lo == lo) && ((g.hi == hi) && (g.born == first_time)))) (sym (bytes-same g.partition))
    ∙ among-one g.lo gs t g (one g.partition)
    ∙ by_test (is_among gs g) refl
  where
    by_test : (b : Bool) → is_among (first_groups g.partition buckets) g ≡ b → (is_among (first_groups g.partition buckets) g && has_slot g g.lo) ≡ is_among (first_groups g.partition buckets) g
    by_test true among = let has = has_slot-within g g.lo (omega arith) (first-has_slots buckets g some most among) in cc
    by_test false among = cc
