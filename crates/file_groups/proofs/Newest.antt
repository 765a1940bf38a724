-- The newest base file up to a time.
use Rattle.std.proofs.Common.{◌≡◌, ℕ, suc, ◌<◌, ◌≤◌, max, Bool, true, false, ◌||◌, nat_eq, nat_lt, nat_le, cond, List, [], ◌∷◌, map, filter, fold, Option, Some, None, refl, sym, ap, subst, ◌∙◌, arith, inl, inr}
use Rattle.std.specs.Prelude.{◌⊎◌, MatchOption}
use Rattle.std.specs.List.{find, list_any, All, AllByRecursion, Contains}
use Rattle.std.proofs.lemmas.Bool.Decides.{nat_tests}
use Rattle.std.proofs.lemmas.List.Elements.{All-from_recursion}
use Rattle.file_groups.specs.Chains.{newest_time, newest_base}
use Rattle.file_groups.specs.declared.parts.BasePart.{BasePart}

abbrev times : ℕ → List BasePart → List ℕ
times t bases = filter (λ time. nat_le time t) (map (λ base. base.time) bases)

-- ---- the greatest time is a bound, up to t, and the time of a base file

record IsGreatest (t a : ℕ) (bases : List BasePart) (n : ℕ) : Type 0 where
  above : a ≤ n
  bound : AllByRecursion (λ base. base.time ≤ t → base.time ≤ n) bases
  within : a ≤ t → n ≤ t
  reached : (n ≡ a) ⊎ (list_any (λ base. nat_eq base.time n) bases ≡ true)

or_right : (b : Bool) → (b || true) ≡ true
or_right true = refl
or_right false = refl

any_later : (n : ℕ) (base : BasePart) (bases : List BasePart) → list_any (λ b. nat_eq b.time n) bases ≡ true → list_any (λ b. nat_eq b.time n) (base ∷ bases) ≡ true
any_later n base bases e = rw e (or_right (nat_eq base.time n))

any_here : (n : ℕ) (base : BasePart) (bases : List BasePart) → base.time ≡ n → list_any (λ b. nat_eq b.time n) (base ∷ bases) ≡ true
any_here n base bases e = let here : nat_eq base.time n ≡ true = grind (arith, nat_tests) in rw here refl

reached_on : (t a n : ℕ) (base : BasePart) (bases : List BasePart) → (n ≡ max a base.time) ⊎ (list_any (λ b. nat_eq b.time n) bases ≡ true)
    → (n ≡ a) ⊎ (list_any (λ b. nat_eq b.time n) (base ∷ bases) ≡ true)
reached_on t a n base bases (inr later) = inr (any_later n base bases later)
reached_on t a n base bases (inl e) = by (nat_lt a base.time) refl
  where
    by : (b : Bool) → nat_lt a base.time ≡ b → (n ≡ a) ⊎ (list_any (λ b. nat_eq b.time n) (base ∷ bases) ≡ true)
    by true less = let here : base.time ≡ n = grind (arith, nat_tests) in inr (any_here n base bases here)
    by false less = let here : n ≡ a = grind (arith, nat_tests) in inl here

reached_later : (a n : ℕ) (base : BasePart) (bases : List BasePart) → (n ≡ a) ⊎ (list_any (λ b. nat_eq b.time n) bases ≡ true)
    → (n ≡ a) ⊎ (list_any (λ b. nat_eq b.time n) (base ∷ bases) ≡ true)
reached_later a n base bases (inl e) = inl e
reached_later a n base bases (inr later) = inr (any_later n base bases later)

step : (t a : ℕ) (base : BasePart) (bases : List BasePart) (c : Bool) → nat_le base.time t ≡ c → ((k : ℕ) → IsGreatest t k bases (fold max k (times t bases)))
    → IsGreatest t a (base ∷ bases) (fold max a (cond c (base.time ∷ times t bases) (times t bases)))
step t a base bases true is rest =
    let own : IsGreatest t (max a base.time) bases (fold max (max a base.time) (times t bases)) = rest (max a base.time) in
    let up : base.time ≤ t = grind (arith, nat_tests) in
    let over : max a base.time ≤ fold max (max a base.time) (times t bases) = own.above in
    record {
      above = omega (arith, over);
      bound = (λ h. omega (arith, over), own.bound);
      within = λ h. own.within (omega arith);
      reached = reached_on t a _ base bases own.reached;
    }
step t a base bases false is rest =
    let own = rest a in
    record {
      above = own.above;
      bound = (λ h. let up : nat_le base.time t ≡ true = grind (arith, nat_tests) in absurd cc, own.bound);
      within = own.within;
      reached = reached_later a _ base bases own.reached;
    }

greatest : (t a : ℕ) (bases : List BasePart) → IsGreatest t a bases (fold max a (times t bases))
greatest t a [] = record { above = omega arith; bound = tt; within = λ h. h; reached = inl refl }
greatest t a (base ∷ bases) = step t a base bases (nat_le base.time t) refl (λ k. greatest t k bases)

-- ---- the first of them

first_none : (n : ℕ) (bases : List BasePart) → find (λ base. nat_eq base.time n) bases ≡ None → AllByRecursion (λ base. nat_eq base.time n ≡ false) bases × (list_any (λ base. nat_eq base.time n) bases ≡ false)
first_none n [] e = (tt, refl)
first_none n (base ∷ bases) e = none_by (nat_eq base.time n) refl e (first_none n bases)
  where
    none_by : (b : Bool) → nat_eq base.time n ≡ b → cond b (Some base) (find (λ base. nat_eq base.time n) bases) ≡ None
        → (find (λ base. nat_eq base.time n) bases ≡ None → AllByRecursion (λ base. nat_eq base.time n ≡ false) bases × (list_any (λ base. nat_eq base.time n) bases ≡ false))
        → AllByRecursion (λ base. nat_eq base.time n ≡ false) (base ∷ bases) × ((nat_eq base.time n || list_any (λ base. nat_eq base.time n) bases) ≡ false)
    none_by true is e rest = absurd cc
    none_by false is e rest = ((is, (rest e).0), rw is (rest e).1)

first_some : (n : ℕ) (bases : List BasePart) (newest : BasePart) → find (λ base. nat_eq base.time n) bases ≡ Some newest → Contains bases newest × (newest.time ≡ n)
first_some n [] newest e = absurd cc
first_some n (base ∷ bases) newest e = some_by (nat_eq base.time n) refl e (first_some n bases newest)
  where
    some_by : (b : Bool) → nat_eq base.time n ≡ b → cond b (Some base) (find (λ base. nat_eq base.time n) bases) ≡ Some newest
        → (find (λ base. nat_eq base.time n) bases ≡ Some newest → Contains bases newest × (newest.time ≡ n)) → Contains (base ∷ bases) newest × (newest.time ≡ n)
    some_by true is e rest =
        let same : base ≡ newest = cc in
        let here : base.time ≡ n = grind (arith, nat_tests) in
        ((0, omega arith, same), ap (λ (b : BasePart). b.time) (sym same) ∙ here)
    some_by false is e rest =
        let later = rest e in
        ((suc later.0.0, omega (arith, later.0.1), later.0.2), later.1)

late : (t n : ℕ) (bases : List BasePart) → n ≡ 0 → AllByRecursion (λ base. base.time ≤ t → base.time ≤ n) bases → AllByRecursion (λ base. nat_eq base.time n ≡ false) bases
    → AllByRecursion (λ base. t < base.time) bases
late t n [] is bound none = tt
late t n (base ∷ bases) is bound none = (by (nat_lt t base.time) refl, late t n bases is bound.1 none.1)
  where
    by : (b : Bool) → nat_lt t base.time ≡ b → t < base.time
    by true less = grind (arith, nat_tests)
    by false less =
        let up : base.time ≤ t = grind (arith, nat_tests) in
        let least : base.time ≤ n = bound.0 up in
        let same : nat_eq base.time n ≡ true = grind (arith, nat_tests) in
        absurd cc

abbrev IsNewest : ℕ → List BasePart → Option BasePart → Type 0
IsNewest t bases found = MatchOption found (All (λ base. t < base.time) bases) (λ newest. Contains bases newest × (newest.time ≤ t) × All (λ base. base.time ≤ t → base.time ≤ newest.time) bases)

newest_by : (t n : ℕ) (bases : List BasePart) (found : Option BasePart) → IsGreatest t 0 bases n → find (λ base. nat_eq base.time n) bases ≡ found → IsNewest t bases found
newest_by t n bases (Some newest) is e =
    let told = first_some n bases newest e in (
      told.0,
      omega (arith, told.1, is.within (omega arith)),
      All-from_recursion (λ base. base.time ≤ t → base.time ≤ newest.time) bases
          (subst (λ (k : ℕ). AllByRecursion (λ base. base.time ≤ t → base.time ≤ k) bases) (sym told.1) is.bound),
    )
newest_by t n bases None is e =
    let none = first_none n bases e in
    All-from_recursion (λ base. t < base.time) bases (late t n bases (zero_by is.reached none.1) is.bound none.0)
  where
    zero_by : (n ≡ 0) ⊎ (list_any (λ base. nat_eq base.time n) bases ≡ true) → list_any (λ base. nat_eq base.time n) bases ≡ false → n ≡ 0
    zero_by (inl same) none = same
    zero_by (inr some) none = absurd cc

pub newest_is : (t : ℕ) (bases : List BasePart) → MatchOption (newest_base t bases) (All (λ base. t < base.time) bases)
    (λ newest. Contains bases newest × (newest.time ≤ t) × All (λ base. base.time ≤ t → base.time ≤ newest.time) bases)
unfolding newest_base
newest_is t bases = newest_by t (newest_time t bases) bases (newest_base t bases) (greatest t 0 bases) refl
