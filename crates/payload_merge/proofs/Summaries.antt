-- A summary of writes does what they do.
use Rattle.std.proofs.Common.{◌≡◌, ◌≤ℤ◌, ◌<ℤ◌, ◌⊎◌, inl, inr, ℤ, Bool, true, false, cond, List, [], ◌∷◌, ◌++◌, Option, Some, None, map, refl, sym, ap, subst, ◌∙◌, arith}
use Rattle.std.specs.Prelude.{int_lt, All, Contains}
use Rattle.std.specs.Int.{int_max}
use Rattle.std.specs.List.{AllByRecursion}
use Rattle.std.proofs.lemmas.Int.{ints}
use Rattle.std.proofs.lemmas.List.{map-append}
use Rattle.std.proofs.lemmas.List.Elements.{All-append, All-contains, All-from_recursion, recursion_from_All, Contains-append_cases, Contains-append_left, Contains-append_right, Contains-push}
use Rattle.payload_merge.specs.declared.row.Row.{Row}
use Rattle.payload_merge.specs.declared.row.Write.{Write}
use Rattle.payload_merge.specs.declared.row.Write.TheVariants.{Put, Del}
use Rattle.payload_merge.specs.declared.summary.Summary.{Summary}
use Rattle.payload_merge.specs.Payload.{Key, key_of, key_of_row, rank_of, row_after, winner}
use Rattle.payload_merge.specs.Fold.{row_after_all}
use Rattle.payload_merge.specs.Summary.{HaveOneKey, IsOfKey, IsSummaryOf, row_onto, summary_of_write, summary_then}
use Rattle.payload_merge.proofs.PayloadRule.{row_after_all-append}

-- no write outranks this
abbrev AreUpTo : ℤ → List Write → Type 0
AreUpTo most writes = AllByRecursion (λ write. rank_of write ≤ℤ most) writes

-- a write has at least this rank
abbrev Reaches : ℤ → List Write → Type 0
Reaches rank [] = ⊥
Reaches rank (write ∷ writes) = (rank ≤ℤ rank_of write) ⊎ Reaches rank writes

reaches : (rank most : ℤ) (writes : List Write) → rank ≤ℤ most → Contains (map rank_of writes) most → Reaches rank writes
reaches rank most [] le found = absurd (omega (arith, found.1))
reaches rank most (write ∷ writes) le found = by_place (reaches rank most writes le) (Contains-append_cases (rank_of write ∷ []) (map rank_of writes) most found)
  where
    by_place : (Contains (map rank_of writes) most → Reaches rank writes) → Contains (rank_of write ∷ []) most ⊎ Contains (map rank_of writes) most → Reaches rank (write ∷ writes)
    by_place among (inl here) =
        let same : most ≡ rank_of write = All-contains (λ z. z ≡ rank_of write) (rank_of write ∷ []) most (All-from_recursion (λ z. z ≡ rank_of write) (rank_of write ∷ []) (refl, tt)) here in
        inl (subst (λ z. rank ≤ℤ z) same le)
    by_place among (inr there) = inr (among there)

-- a row that outranks all writes stays
stays : (present : Row) (most : ℤ) (writes : List Write) → most <ℤ present.rank → AreUpTo most writes → row_after_all (Some present) writes ≡ Some present
stays present most [] lt all = refl
stays present most (write ∷ writes) lt all = ap (λ b. row_after_all (winner b present write) writes) (by_test (int_lt (rank_of write) present.rank) refl) ∙ stays present most writes lt all.1
  where
    by_test : (b : Bool) → int_lt (rank_of write) present.rank ≡ b → b ≡ true
    by_test true at = refl
    by_test false at = absurd (omega (arith, ints, at, lt, all.0))

left : (present : Row) (write : Write) → winner false present write ≡ row_after None write
left present (Put row) = refl
left present (Del partition key rank) = refl

-- what a write leaves of a row that doesn't outrank it
row_after-goes : (present : Row) (write : Write) → present.rank ≤ℤ rank_of write → row_after (Some present) write ≡ row_after None write
row_after-goes present write le = ap (λ b. winner b present write) (by_test (int_lt (rank_of write) present.rank) refl) ∙ left present write
  where
    by_test : (b : Bool) → int_lt (rank_of write) present.rank ≡ b → b ≡ false
    by_test true at = absurd (omega (arith, ints, at, le))
    by_test false at = refl

reaches_lower : (lower rank : ℤ) (writes : List Write) → lower ≤ℤ rank → Reaches rank writes → Reaches lower writes
reaches_lower lower rank [] le never = never
reaches_lower lower rank (write ∷ writes) le (inl here) = inl (omega (arith, ints, le, here))
reaches_lower lower rank (write ∷ writes) le (inr there) = inr (reaches_lower lower rank writes le there)

-- a row that doesn't outrank all writes is forgotten
goes : (writes : List Write) (present : Row) → Reaches present.rank writes → row_after_all (Some present) writes ≡ row_after_all None writes
goes [] present never = absurd never
goes (write ∷ writes) present (inl here) = ap (λ row. row_after_all row writes) (row_after-goes present write here)
goes (write ∷ writes) present (inr later) = by_test (goes writes) (int_lt (rank_of write) present.rank) refl
  where
    by_write : ((row : Row) → Reaches row.rank writes → row_after_all (Some row) writes ≡ row_after_all None writes) → (w : Write) → rank_of w ≤ℤ present.rank → row_after_all (Some present) writes ≡ row_after_all (row_after None w) writes
    by_write more (Put row) le = more present later ∙ sym (more row (reaches_lower row.rank present.rank writes le later))
    by_write more (Del partition key rank) le = more present later

    by_test : ((row : Row) → Reaches row.rank writes → row_after_all (Some row) writes ≡ row_after_all None writes) → (b : Bool) → int_lt (rank_of write) present.rank ≡ b
        → row_after_all (winner b present write) writes ≡ row_after_all (row_after None write) writes
    by_test more true at = by_write more write (omega (arith, ints, at))
    by_test more false at = ap (λ row. row_after_all row writes) (left present write)

-- writes make of any row, or of none, what their summary makes of it
pub whole_effect : (writes : List Write) (summary : Summary) (present : Option Row) → IsSummaryOf writes summary → row_after_all present writes ≡ row_onto summary present
whole_effect writes summary None is = sym is.value
whole_effect writes summary (Some present) is = by_test (int_lt summary.most present.rank) refl
  where
    by_test : (b : Bool) → int_lt summary.most present.rank ≡ b → row_after_all (Some present) writes ≡ cond b (Some present) summary.value
    by_test true at = stays present summary.most writes (omega (arith, ints, at)) (recursion_from_All _ writes is.greatest)
    by_test false at = goes writes present (reaches present.rank summary.most writes (omega (arith, ints, at)) is.reached) ∙ sym is.value

itself : (z : ℤ) → z ≤ℤ z
itself z = omega (arith, ints)

pub summary_of_one : (write : Write) → IsSummaryOf (write ∷ []) (summary_of_write write)
summary_of_one write = record {
  reached = Contains-push [] (rank_of write);
  greatest = All-from_recursion (λ other. rank_of other ≤ℤ rank_of write) (write ∷ []) (itself (rank_of write), tt);
  value = refl;
}

-- ---- two lists

up_to_more : (most more : ℤ) (writes : List Write) → most ≤ℤ more → AreUpTo most writes → AreUpTo more writes
up_to_more most more [] le all = tt
up_to_more most more (write ∷ writes) le all = (omega (arith, ints, le, all.0), up_to_more most more writes le all.1)

pub summary_of_both : (writes more : List Write) (earlier later : Summary) → IsSummaryOf writes earlier → IsSummaryOf more later → IsSummaryOf (writes ++ more) (summary_then earlier later)
summary_of_both writes more earlier later is also = record {
  reached = subst (λ ranks. Contains ranks (int_max earlier.most later.most)) (sym (map-append rank_of writes more)) (by_test (int_lt later.most earlier.most));
  greatest = All-append (λ write. rank_of write ≤ℤ int_max earlier.most later.most) writes more (raised writes earlier.most is.greatest first_up) (raised more later.most also.greatest second_up);
  value = sym (row_after_all-append None writes more
      ∙ ap (λ row. row_after_all row more) (sym is.value)
      ∙ whole_effect more later earlier.value also);
}
  where
    by_test : (b : Bool) → Contains (map rank_of writes ++ map rank_of more) (cond b earlier.most later.most)
    by_test true = Contains-append_left (map rank_of writes) (map rank_of more) earlier.most is.reached
    by_test false = Contains-append_right (map rank_of writes) (map rank_of more) later.most also.reached

    raised : (ws : List Write) (most : ℤ) → All (λ write. rank_of write ≤ℤ most) ws → most ≤ℤ int_max earlier.most later.most → All (λ write. rank_of write ≤ℤ int_max earlier.most later.most) ws
    raised ws most all le = All-from_recursion (λ write. rank_of write ≤ℤ int_max earlier.most later.most) ws (up_to_more most (int_max earlier.most later.most) ws le (recursion_from_All (λ write. rank_of write ≤ℤ most) ws all))

    first_up : earlier.most ≤ℤ int_max earlier.most later.most
    first_up = up (int_lt later.most earlier.most) refl
      where
        up : (b : Bool) → int_lt later.most earlier.most ≡ b → earlier.most ≤ℤ cond b earlier.most later.most
        up true at = omega (arith, ints)
        up false at = omega (arith, ints, at)

    second_up : later.most ≤ℤ int_max earlier.most later.most
    second_up = up (int_lt later.most earlier.most) refl
      where
        up : (b : Bool) → int_lt later.most earlier.most ≡ b → later.most ≤ℤ cond b earlier.most later.most
        up true at = omega (arith, ints, at)
        up false at = omega (arith, ints)

-- ---- keys

pub IsOfKey-one : (write : Write) → IsOfKey (key_of write) (row_after None write)
IsOfKey-one (Put row) = λ other is. let e : row ≡ other = cc in ap key_of_row (sym e)
IsOfKey-one (Del partition key rank) = λ other is. cc

pub pairs_of_key : (key : Key) (row other : Option Row) → IsOfKey key row → IsOfKey key other → HaveOneKey row other
pairs_of_key key row other has also = λ one is. λ two are. has one is ∙ sym (also two are)

pub IsOfKey-onto : (key : Key) (summary : Summary) (present : Option Row) → IsOfKey key summary.value → IsOfKey key present → IsOfKey key (row_onto summary present)
IsOfKey-onto key summary None has also = has
IsOfKey-onto key summary (Some present) has also = by_test (int_lt summary.most present.rank)
  where
    by_test : (b : Bool) → IsOfKey key (cond b (Some present) summary.value)
    by_test true = also
    by_test false = has
