-- Tests of the elements of a list that was reordered.
use Rattle.std.proofs.Common.{◌≡◌, ◌⊎◌, inl, inr, Bool, true, false, cond, List, [], ◌∷◌, map, filter, refl, sym, ap, ◌∙◌}
use Rattle.std.specs.List.{AllByRecursion}
use Rattle.std.specs.List.Sorted.{IsPermutation}
use Rattle.std.proofs.lemmas.List.Elements.{All-from_recursion, recursion_from_All}
use Rattle.std.proofs.lemmas.List.Sorted.{All-permutation}

pub AllByRecursion-permutation : {X : Type 0} (P : X → Type 0) (xs ys : List X) → IsPermutation xs ys → AllByRecursion P xs → AllByRecursion P ys
AllByRecursion-permutation P xs ys moved all = recursion_from_All P ys (All-permutation P xs ys moved (All-from_recursion P xs all))

pub filter-none : {X : Type 0} (p : X → Bool) (xs : List X) → AllByRecursion (λ x. p x ≡ false) xs → filter p xs ≡ []
filter-none p [] fail = refl
filter-none p (x ∷ xs) fail = ap (λ b. cond b (x ∷ filter p xs) (filter p xs)) fail.0 ∙ filter-none p xs fail.1

filter_alike : {X : Type 0} (p q : X → Bool) (P : X → Type 0) (xs : List X) → AllByRecursion P xs → ((x : X) → P x → p x ≡ q x) → filter p xs ≡ filter q xs
filter_alike p q P [] all alike = refl
filter_alike p q P (x ∷ xs) all alike =
    ap (λ b. cond b (x ∷ filter p xs) (filter p xs)) (alike x all.0)
    ∙ ap (λ rest. cond (q x) (x ∷ rest) rest) (filter_alike p q P xs all.1 alike)

-- an element that passes, or none does
passing : {X : Type 0} (p : X → Bool) (P : X → Type 0) (xs : List X) → AllByRecursion P xs → ((x : X) × P x × (p x ≡ true)) ⊎ AllByRecursion (λ x. p x ≡ false) xs
passing p P [] all = inr tt
passing p P (x ∷ xs) all = by_test (p x) refl (passing p P xs all.1)
  where
    by_test : (b : Bool) → p x ≡ b → ((y : _) × P y × (p y ≡ true)) ⊎ AllByRecursion (λ y. p y ≡ false) xs → ((y : _) × P y × (p y ≡ true)) ⊎ AllByRecursion (λ y. p y ≡ false) (x ∷ xs)
    by_test true is rest = inl (x, all.0, is)
    by_test false is (inl found) = inl found
    by_test false is (inr none) = inr (is, none)

-- where a reordering keeps the order of each element's like, it keeps that of those which pass
pub same_filter : {X : Type 0} (p : X → Bool) (like : X → X → Bool) (P : X → Type 0) (xs ys : List X) → IsPermutation xs ys → AllByRecursion P xs
    → ((x : X) → filter (like x) ys ≡ filter (like x) xs) → ((x y : X) → P x → P y → p x ≡ true → p y ≡ like x y) → filter p ys ≡ filter p xs
same_filter p like P xs ys moved all stable alike = by_passing (passing p P xs all)
  where
    by_passing : ((x : _) × P x × (p x ≡ true)) ⊎ AllByRecursion (λ x. p x ≡ false) xs → filter p ys ≡ filter p xs
    by_passing (inl (x, here, passes)) =
        filter_alike p (like x) P ys (AllByRecursion-permutation P xs ys moved all) (λ y there. alike x y here there passes)
        ∙ stable x
        ∙ sym (filter_alike p (like x) P xs all (λ y there. alike x y here there passes))
    by_passing (inr none) = filter-none p ys (AllByRecursion-permutation (λ x. p x ≡ false) xs ys moved none) ∙ sym (filter-none p xs none)

pub filter-map : {X Y : Type 0} (f : X → Y) (p : Y → Bool) (xs : List X) → filter p (map f xs) ≡ map f (filter (λ x. p (f x)) xs)
filter-map f p [] = refl
filter-map f p (x ∷ xs) = ap (λ rest. cond (p (f x)) (f x ∷ rest) rest) (filter-map f p xs) ∙ by_test (p (f x))
  where
    by_test : (b : Bool) → cond b (f x ∷ map f (filter (λ z. p (f z)) xs)) (map f (filter (λ z. p (f z)) xs)) ≡ map f (cond b (x ∷ filter (λ z. p (f z)) xs) (filter (λ z. p (f z)) xs))
    by_test true = refl
    by_test false = refl
