-- Writes with their prefixes, once they are sorted.
use Rattle.std.proofs.Common.{◌≡◌, ℕ, suc, ◌+◌, ◌&&◌, Bool, true, false, not, List, [], ◌∷◌, map, filter, get_or, refl, sym, ap, subst, ◌∙◌, arith}
use Rattle.std.specs.Cmp.{IsTotalOrder}
use Rattle.std.specs.List.{AllByRecursion}
use Rattle.std.specs.List.Sorted.{IsPermutation, IsSortedBy, IsStableBy, ties}
use Rattle.std.specs.Ordering.{nat_cmp, ordering_then, ordering_reverse, is_eq, is_lt}
use Rattle.std.specs.declared.cmp.Ordering.{Ordering}
use Rattle.std.specs.declared.cmp.Ordering.TheVariants.{Less, Equal, Greater}
use Rattle.std.proofs.lemmas.Cmp.{nat_cmp_total, nat_list_cmp_total, on_total, then_total}
use Rattle.std.proofs.lemmas.Map.Lookups.{exact_bytes}
use Rattle.payload_merge.specs.declared.row_refs.WriteRef.{WriteRef}
use Rattle.payload_merge.specs.declared.prefixed_writes.PrefixedWrite.{PrefixedWrite}
use Rattle.payload_merge.specs.KeyOrder.{ArePrefixed, OrdersByKey, IsKeyPrefix, KeysRise, KeysRiseFrom, bytes_cmp, has_key, write_of}
use Rattle.payload_merge.specs.RowRefs.{key_of_ref}
use Rattle.payload_merge.proofs.Filters.{AllByRecursion-permutation, filter-map, same_filter}
use Rattle.payload_merge.proofs.KeyPrefixes.{prefix_order}

-- ---- the order by prefixes

abbrev pub prefixed_cmp : PrefixedWrite → PrefixedWrite → Ordering
prefixed_cmp one other = ordering_then (nat_cmp one.prefix other.prefix) (bytes_cmp (key_of_ref one.write.now) (key_of_ref other.write.now))

abbrev pub is_lower : PrefixedWrite → PrefixedWrite → Bool
is_lower one other = is_lt (prefixed_cmp one other)

pub prefixed_total : IsTotalOrder prefixed_cmp
prefixed_total = then_total (on_total (λ (one : PrefixedWrite). one.prefix) nat_cmp_total) (on_total (λ (one : PrefixedWrite). (key_of_ref one.write.now)) nat_list_cmp_total)

abbrev HasPrefix : PrefixedWrite → Type 0
HasPrefix one = IsKeyPrefix one.prefix (key_of_ref one.write.now)

by_keys : (one other : PrefixedWrite) → HasPrefix one → HasPrefix other → prefixed_cmp one other ≡ bytes_cmp (key_of_ref one.write.now) (key_of_ref other.write.now)
by_keys one other is also = prefix_order one.prefix other.prefix (key_of_ref one.write.now) (key_of_ref other.write.now) is also

rise_from : (one : PrefixedWrite) (more : List PrefixedWrite) → HasPrefix one → AllByRecursion HasPrefix more → IsSortedBy is_lower (one ∷ more) → KeysRiseFrom (key_of_ref one.write.now) (map write_of more)
rise_from one [] is all sorted = tt
rise_from one (two ∷ more) is all sorted = (
  λ less. not_less (sorted 0 one (omega arith) (omega arith)) (ap is_lt (by_keys two one all.0 is ∙ less)),
  rise_from two more all.0 all.1 (λ k d from to.
      let step : suc k + 1 ≡ suc (k + 1) = omega arith in
      subst (λ n. is_lower (get_or (one ∷ two ∷ more) n d) (get_or (two ∷ more) k d) ≡ false) step (sorted (suc k) d (omega arith) (omega (arith, to)))),
)
  where
    not_less : is_lower two one ≡ false → is_lower two one ≡ true → ⊥
    not_less is_false is_true = cc

-- no key is below the one without bytes
not_below_none : (key : List ℕ) → bytes_cmp key [] ≡ Less → ⊥
not_below_none [] less = cc
not_below_none (byte ∷ key) less = cc

rise : (all : List PrefixedWrite) → AllByRecursion HasPrefix all → IsSortedBy is_lower all → KeysRise (map write_of all)
rise [] prefixes sorted = tt
rise (one ∷ more) prefixes sorted = (not_below_none (key_of_ref one.write.now), rise_from one more prefixes.0 prefixes.1 sorted)

equal : (o : Ordering) → is_eq o ≡ true → o ≡ Equal
equal Less h = cc
equal Equal h = refl
equal Greater h = cc

neither : (o : Ordering) → is_eq o ≡ (not (is_lt o) && not (is_lt (ordering_reverse o)))
neither Less = refl
neither Equal = refl
neither Greater = refl

-- of writes with their prefixes, those that tie are those to one key
tie_by_keys : (key : List ℕ) (one other : PrefixedWrite) → HasPrefix one → HasPrefix other → has_key key (write_of one) ≡ true → has_key key (write_of other) ≡ ties is_lower one other
tie_by_keys key one other is also has =
    let here : key ≡ (key_of_ref one.write.now) = exact_bytes key (key_of_ref one.write.now) (equal (bytes_cmp key (key_of_ref one.write.now)) has) in
    ap (λ k. is_eq (bytes_cmp k (key_of_ref other.write.now))) here
    ∙ neither (bytes_cmp (key_of_ref one.write.now) (key_of_ref other.write.now))
    ∙ ap (λ o. not (is_lt (bytes_cmp (key_of_ref one.write.now) (key_of_ref other.write.now))) && not (is_lt o)) (sym (nat_list_cmp_total.antisymm (key_of_ref other.write.now) (key_of_ref one.write.now)))
    ∙ ap (λ o. not (is_lt o) && not (is_lt (bytes_cmp (key_of_ref other.write.now) (key_of_ref one.write.now)))) (sym (by_keys one other is also))
    ∙ ap (λ o. not (is_lower one other) && not (is_lt o)) (sym (by_keys other one also is))

-- what a stable sort by prefixes and keys leaves
pub sorted_writes : (writes : List WriteRef) (prefixed sorted : List PrefixedWrite) → ArePrefixed writes prefixed → IsPermutation prefixed sorted → IsSortedBy is_lower sorted → IsStableBy is_lower prefixed sorted → OrdersByKey writes (map write_of sorted)
sorted_writes writes prefixed sorted are moved rising stable = record {
  rise = rise sorted (AllByRecursion-permutation HasPrefix prefixed sorted moved are.prefixes) rising;
  stable = λ key.
      filter-map write_of (has_key key) sorted
      ∙ ap (map write_of) (same_filter (λ one. has_key key (write_of one)) (ties is_lower) HasPrefix prefixed sorted moved are.prefixes stable (tie_by_keys key))
      ∙ sym (filter-map write_of (has_key key) prefixed)
      ∙ ap (filter (has_key key)) are.same;
}
