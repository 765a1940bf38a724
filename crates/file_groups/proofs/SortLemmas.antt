-- What a stable sort by a number ensures.
use Rattle.std.proofs.Common.{◌≡◌, ℕ, List}
use Rattle.std.specs.Ordering.{nat_cmp}
use Rattle.std.specs.Fn.{Called, ComputesKey}
use Rattle.std.specs.List.Sorted.{IsPermutation, IsSortedByKey, IsStableByKey}
use Rattle.std.proofs.lemmas.Fn.{always_returns_same}
use Rattle.std.proofs.lemmas.List.Sorted.{IsNonDecreasingBy-from_sort_by_key}
use denote.Ref.{Bor}
use denote.Param.Members.{Mut}
use Rattle.file_groups.specs.Orders.{IsSortedFrom}

-- from the clause `stable` of `sort_by_key`, where each call gives n of the element
pub stable_from_sort_by_key : {X : Type 0} (n : X → ℕ) {F : Type 0} {g : Mut F (Bor X × Unit {0}) ℕ} {f : F} (xs ys : List X)
    → ((key : X → ℕ) → ComputesKey g key f → IsStableByKey key nat_cmp xs ys)
    → ((a : Bor X × Unit {0}) (r : ℕ) (f' : F) → Called g f a r f' → (r ≡ n a.0.now) × (f' ≡ f)) → IsStableByKey n nat_cmp xs ys
stable_from_sort_by_key n {g = g} {f = f} xs ys stable h = stable n (always_returns_same g (λ a r. r ≡ n a.0.now) f h)

-- and all that it ensures
pub sorted_from : {X : Type 0} (n : X → ℕ) {F : Type 0} {g : Mut F (Bor X × Unit {0}) ℕ} {f : F} (xs ys : List X)
    → IsPermutation xs ys
    → ((key : X → ℕ) → ComputesKey g key f → IsSortedByKey key nat_cmp ys)
    → ((key : X → ℕ) → ComputesKey g key f → IsStableByKey key nat_cmp xs ys)
    → ((a : Bor X × Unit {0}) (r : ℕ) (f' : F) → Called g f a r f' → (r ≡ n a.0.now) × (f' ≡ f)) → IsSortedFrom n xs ys
sorted_from n xs ys same order stable h = record {
  same = same;
  order = IsNonDecreasingBy-from_sort_by_key n ys order h;
  ties = stable_from_sort_by_key n xs ys stable h;
}
