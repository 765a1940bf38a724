-- Keys that come in order.
use Rattle.std.proofs.Common.{◌≡◌, ℕ, Bool, true, false, ◌||◌, List, [], ◌∷◌, ◌++◌, Some, refl, sym, subst, ◌∙◌}
use Rattle.std.specs.Prelude.{IsTrue, ◌==◌}
use Rattle.std.specs.Bool.{OnTrue}
use Rattle.std.proofs.Common.{Ordering, Less, Equal, Greater, nat_cmp, is_le}
use Rattle.std.specs.Ordering.{ordering_reverse, ordering_index}
use Rattle.std.specs.Cmp.Lexicographic.{slice_cmp}
use Rattle.std.specs.BTreeMap.Comparable.{le_lt_trans}
use Rattle.std.specs.Str.{bytes_eq}
use Rattle.std.proofs.lemmas.Cmp.{nat_list_cmp_total}
use Rattle.std.proofs.lemmas.List.Folds.{list_any-append}
use Rattle.std.proofs.lemmas.Slice.Eq.{bytes_eq-Decides}
use Rattle.base_file.specs.BaseFiles.{is_among}
use Rattle.base_file.specs.KeyTables.{AreUpTo}

self_equal : (o : Ordering) → o ≡ ordering_reverse o → o ≡ Equal
self_equal Less e = absurd cc
self_equal Equal e = refl
self_equal Greater e = absurd cc

cmp_self : (key : List ℕ) → slice_cmp nat_cmp key key ≡ Equal
cmp_self key = self_equal (slice_cmp nat_cmp key key) (nat_list_cmp_total.antisymm key key)

le_self : (key : List ℕ) → IsTrue (is_le (slice_cmp nat_cmp key key))
le_self key = subst (λ (o : Ordering). IsTrue (is_le o)) (sym (cmp_self key)) refl

same_le : (key other : List ℕ) → bytes_eq key other ≡ true → IsTrue (is_le (slice_cmp nat_cmp other key))
same_le key other e = subst (λ (k : List ℕ). IsTrue (is_le (slice_cmp nat_cmp k key))) ((bytes_eq-Decides key other).0 e) (le_self key)

-- a key above the last one isn't among them
not_among : (keys : List (List ℕ)) (last key : List ℕ) → AreUpTo keys (Some last) → slice_cmp nat_cmp last key ≡ Less → is_among keys key ≡ false
not_among keys last key up less = by_among (is_among keys key) refl
  where
    by_among : (b : Bool) → is_among keys key ≡ b → is_among keys key ≡ false
    by_among false e = e
    by_among true e =
        let below = le_lt_trans nat_list_cmp_total key last key (up key e) less in
        let equal = cmp_self key in
        absurd cc

up_more : (keys : List (List ℕ)) (last key : List ℕ) → AreUpTo keys (Some last) → slice_cmp nat_cmp last key ≡ Less → AreUpTo (keys ++ key ∷ []) (Some key)
up_more keys last key up less other among = by_either (is_among keys other) (bytes_eq key other) refl refl (sym (list_any-append (λ (one : List ℕ). bytes_eq one other) keys (key ∷ [])) ∙ among)
  where
    by_either : (a b : Bool) → is_among keys other ≡ a → bytes_eq key other ≡ b → (a || (b || false)) ≡ true → IsTrue (is_le (slice_cmp nat_cmp other key))
    by_either true b e f g = subst (λ (o : Ordering). IsTrue (is_le o)) (sym (le_lt_trans nat_list_cmp_total other last key (up other e) less)) refl
    by_either false true e f g = same_le key other f
    by_either false false e f g = absurd cc

-- the key that comes after none, and one that is above the last one
pub first_above : (keys : List (List ℕ)) (key : List ℕ) → keys ≡ [] → (is_among keys key ≡ false) × AreUpTo (keys ++ key ∷ []) (Some key)
first_above keys key none = subst (λ (ks : List (List ℕ)). (is_among ks key ≡ false) × AreUpTo (ks ++ key ∷ []) (Some key)) (sym none) (refl, λ other among. only (bytes_eq key other) other refl among)
  where
    only : (b : Bool) (other : List ℕ) → bytes_eq key other ≡ b → (b || false) ≡ true → IsTrue (is_le (slice_cmp nat_cmp other key))
    only true other e f = same_le key other e
    only false other e f = absurd cc

pub next_above : (keys : List (List ℕ)) (last key : List ℕ) (o : Ordering) (above : Bool) → AreUpTo keys (Some last) → o ≡ slice_cmp nat_cmp last key → above ≡ (ordering_index o == 0)
    → OnTrue above ((is_among keys key ≡ false) × AreUpTo (keys ++ key ∷ []) (Some key))
next_above keys last key o false up is e = tt
next_above keys last key Less true up is e = (not_among keys last key up (sym is), up_more keys last key up (sym is))
next_above keys last key Equal true up is e = absurd cc
next_above keys last key Greater true up is e = absurd cc
