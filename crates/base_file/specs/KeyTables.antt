-- Tables of keys, and keys in order; for private clauses.
use Rattle.std.specs.Prelude.{◌≡◌, ℕ, List, [], IsTrue, true, Option, Some, None, is_some}
use Rattle.std.specs.Borrow.{Bor}
use Rattle.std.specs.BTreeMap.{BTreeMap, get_by}
use Rattle.std.specs.Cmp.Lexicographic.{slice_cmp}
use Rattle.std.specs.Ordering.{nat_cmp, is_le}
use Rattle.base_file.specs.BaseFiles.{is_among}

-- the table has just these keys
abbrev pub IsTableOf : {X : Type 0} → List (List ℕ) → BTreeMap (Bor (List ℕ)) X → Type 0
IsTableOf keys table = (key : List ℕ) → is_some (get_by (λ k. slice_cmp nat_cmp key k.now) table) ≡ is_among keys key

-- none of the keys is above the last of them
abbrev pub AreUpTo : List (List ℕ) → Option (List ℕ) → Type 0
AreUpTo keys None = keys ≡ []
AreUpTo keys (Some last) = (key : List ℕ) → is_among keys key ≡ true → IsTrue (is_le (slice_cmp nat_cmp key last))
