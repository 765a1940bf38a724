-- The items of a content, one after another.
use Rattle.std.proofs.Common.{◌≡◌, ℕ, suc, ◌+◌, ◌-◌, ◌<◌, ◌≤◌, ◌^◌, eqb, List, [], ◌∷◌, ◌++◌, length, Result, Ok, Err, refl, sym, ap, ◌∙◌, append_assoc, arith}
use Rattle.std.specs.List.{flat_map, AllByRecursion}
use Rattle.std.proofs.lemmas.List.{append-nil}
use Rattle.byteorder.specs.Endian.{big_bytes, big_number}
use Rattle.byte_fields.specs.declared.field_error.FieldError.{FieldError}
use Rattle.byte_fields.specs.Reading.{Reading, ◌>>=◌, as_item, only_if}
use Rattle.byte_fields.specs.Numbers.{number_at, after_number}
use Rattle.byte_fields.proofs.NumberLemmas.{big4, number_at_again, after_number_again}
use Rattle.byte_fields.proofs.ReadingLemmas.{bind_is}
use Rattle.block_contents.specs.Contents.{content_bytes, head_at, count_at, items_at, content_at}
use Rattle.block_contents.specs.Readers.{Fails}
use Rattle.block_contents.specs.declared.read_error.ReadError.{ReadError}
use Rattle.block_contents.specs.declared.read_error.ReadError.TheVariants.{Memory, Field}

-- ---- read

module _ {A : Type 0} (read : List ℕ → Reading A) where
  -- items that were read before items that are still to be read
  abbrev pub with_before : List A → Reading (List A) → Reading (List A)
  with_before before more = more >>= λ x. Ok (before ++ x.0, x.1)

  regrouped : (before : List A) (item : A) (more : Reading (List A)) → with_before before (more >>= λ x. Ok (item ∷ x.0, x.1)) ≡ with_before (before ++ item ∷ []) more
  regrouped before item (Ok x) = ap (λ (items : List A). Ok (items, x.1)) (sym (append_assoc before (item ∷ []) x.0))
  regrouped before item (Err error) = refl

  -- one item more
  pub items_more : (before : List A) (count i : ℕ) (bytes : List ℕ) (item : A) (after : List ℕ) (all : Reading (List A)) → i < count → read bytes ≡ Ok (item, after)
      → with_before before (items_at read (count - i) bytes) ≡ all → with_before (before ++ item ∷ []) (items_at read (count - (i + 1)) after) ≡ all
  unfolding items_at
  items_more before count i bytes item after all lt found so_far =
      let k : count - i ≡ suc (count - (i + 1)) = omega arith in
      let one : with_before before (items_at read (count - i) bytes) ≡ with_before (before ++ item ∷ []) (items_at read (count - (i + 1)) after) = rw (k, found) (regrouped before item (items_at read (count - (i + 1)) after)) in
      sym one ∙ so_far

  -- an item that isn't read
  pub items_stop : (error : ReadError) (before : List A) (count i : ℕ) (bytes : List ℕ) (all : Reading (List A)) → i < count → Fails error (read bytes)
      → with_before before (items_at read (count - i) bytes) ≡ all → Fails error all
  unfolding items_at
  items_stop Memory before count i bytes all lt fails so_far = tt
  items_stop (Field error) before count i bytes all lt fails so_far =
      let k : count - i ≡ suc (count - (i + 1)) = omega arith in
      let none : with_before before (items_at read (count - i) bytes) ≡ Err error = rw (k, fails) refl in
      sym so_far ∙ none

  -- all of them
  pub items_end : (before : List A) (count i : ℕ) (bytes : List ℕ) (all : Reading (List A)) → count ≤ i → with_before before (items_at read (count - i) bytes) ≡ all → all ≡ Ok (before, bytes)
  unfolding items_at
  items_end before count i bytes all le so_far =
      let k : count - i ≡ 0 = omega arith in
      let one : with_before before (items_at read (count - i) bytes) ≡ Ok (before, bytes) = rw k (ap (λ (items : List A). Ok (items, bytes)) (append-nil before)) in
      sym so_far ∙ one

  -- ---- read again

  module _ (item_bytes : A → List ℕ) (P : A → Type 0) (again : (item : A) (rest : List ℕ) → P item → read (item_bytes item ++ rest) ≡ Ok (item, rest)) where
    pub items_again : (items : List A) (rest : List ℕ) → AllByRecursion P items → items_at read (length items) (flat_map item_bytes items ++ rest) ≡ Ok (items, rest)
    unfolding items_at
    items_again [] rest each = refl
    items_again (item ∷ items) rest each =
        let after = flat_map item_bytes items ++ rest in
        let last : A × List ℕ → List A × List ℕ → Reading (List A) = λ first others. Ok (first.0 ∷ others.0, others.1) in
        ap (items_at read (suc (length items))) (append_assoc (item_bytes item) (flat_map item_bytes items) rest)
        ∙ bind_is (read (item_bytes item ++ after)) (item, after) (λ first. items_at read (length items) first.1 >>= last first) (again item after each.0)
        ∙ bind_is (items_at read (length items) after) (items, rest) (last (item, after)) (items_again items rest each.1)

    -- what is written of items is read back
    pub content_again : (items : List A) → length items < 2 ^ 32 → AllByRecursion P items → content_at read (content_bytes item_bytes items) ≡ Ok items
    unfolding content_at content_bytes count_at head_at
    content_again items few each =
        let after = flat_map item_bytes items in
        let count = big_bytes 4 (length items) ++ after in
        let whole = big_bytes 4 3 ++ count in
        let last : List A × List ℕ → Result (List A) FieldError = λ found. only_if (eqb (length found.1) 0) found.1 found.0 in
        let head : head_at whole ≡ Ok (length items, after) =
        bind_is (after_number big_number 4 3 whole) count (λ rest. number_at big_number 4 rest) (after_number_again big_number big_bytes 4 3 count big4 (omega arith)) ∙ number_at_again big_number big_bytes 4 (length items) after big4 few in
        bind_is (as_item whole (head_at whole)) (length items, after) (λ n. items_at read n.0 n.1 >>= last) (ap (as_item whole) head)
        ∙ bind_is (items_at read (length items) after) (items, []) last (ap (items_at read (length items)) (sym (append-nil after)) ∙ items_again items [] each)
