-- Lists in order.
use Rattle.std.specs.Prelude.{ℕ, List}
use Rattle.std.specs.Ordering.{nat_cmp}
use Rattle.std.specs.List.Sorted.{IsPermutation, IsNonDecreasingBy, IsStableByKey}

-- The elements of xs in the order of a number of each. Those with one number keep their order.
pub record IsSortedFrom {A : Type 0} (number : A → ℕ) (xs ys : List A) : Type 0 where
  pub same : IsPermutation xs ys
  pub order : IsNonDecreasingBy number ys
  pub ties : IsStableByKey number nat_cmp xs ys
