-- A value that has a reading is of the type, where its items are few enough to be counted.
use Rattle.std.proofs.Common.{◌≡◌, ℕ, zero, suc, ◌+◌, ◌*◌, ◌^◌, ◌<◌, List, [], ◌∷◌, ◌++◌, length, pos, ap, ◌∙◌, arith}
use Rattle.std.specs.Prelude.{sum_by}
use Rattle.std.specs.List.{AllByRecursion}
use Rattle.std.proofs.lemmas.List.Sums.{sum_by-cons, sum_by-append}
use Rattle.byte_fields.proofs.VarintLemmas.{zigzag_fits-32, zigzag_fits-64}
use Rattle.hudi_base.specs.declared.value.Value.{Value}
use Rattle.hudi_base.specs.declared.value.Pair.{Pair, out-Pair}
use Rattle.avro_schema.specs.AvroTypes.{AvroType, null, boolean, int, long, bytes, string, fixed_of, enum_of, array_of, map_of, union_of, record_of, Branches, no_branches, branch, Fields, no_fields, field}
use Rattle.avro_schema.specs.Grammar.{IsInt, IsPrefixed, IsEntry, AreItems, AreBlocks, IsReading, IsBranch, AreFields}
use Rattle.avro_schema.specs.Fits.{FitsEntry, Fits, FitsBranch, FitFields}
use Rattle.avro_schema.specs.Written.{item_count, entry_count}
use Rattle.avro_value.proofs.BlockLemmas.{flat}
use Rattle.avro_value.proofs.Values.{item_count-Union, item_count-Array, item_count-Map, item_count-Record, entry_count-is}

prefixed_small : (content bs : List ℕ) → IsPrefixed content bs → length content < 2 ^ 63
prefixed_small content bs is = let below : 2 * length content < 2 ^ 64 = is.2.below in omega arith

index_small : (n : ℕ) (bs : List ℕ) → IsInt (pos n) bs → n < 2 ^ 31
index_small n bs is = let below : 2 * n < 2 ^ 32 = is.1 in omega arith

-- ---- lists

all_append : {A : Type 0} (Q : A → Type 0) (xs ys : List A) → AllByRecursion Q xs → AllByRecursion Q ys → AllByRecursion Q (xs ++ ys)
all_append Q [] ys all others = others
all_append Q (x ∷ xs) ys all others = (all.0, all_append Q xs ys all.1 others)

module _ {A : Type 0} (P : A → List ℕ → Type 0) (Q : A → Type 0) (count : A → ℕ) (each : (x : A) (bs : List ℕ) → P x bs → count x < 2 ^ 63 → Q x) where
  items_fit : (xs : List A) (bs : List ℕ) → AreItems P xs bs → sum_by count xs < 2 ^ 63 → AllByRecursion Q xs
  items_fit [] bs are few = tt
  items_fit (x ∷ xs) bs are few =
      let cut : sum_by count (x ∷ xs) ≡ count x + sum_by count xs = sum_by-cons count x xs in
      (each x are.0 are.3 (omega arith), items_fit xs are.1 are.4 (omega arith))

  blocks_fit : (blocks : List (List A)) (bs : List ℕ) → AreBlocks P blocks bs → sum_by count (flat blocks) < 2 ^ 63 → AllByRecursion Q (flat blocks)
  blocks_fit [] bs are few = tt
  blocks_fit (items ∷ blocks) bs are few =
      let cut : sum_by count (items ++ flat blocks) ≡ sum_by count items + sum_by count (flat blocks) = sum_by-append count items (flat blocks) in
      all_append Q items (flat blocks) (items_fit items are.1 are.6 (omega arith)) (blocks_fit blocks are.2 are.7 (omega arith))

entry_fits_of : (P : Value → List ℕ → Type 0) (Q : Value → Type 0) → ((v : Value) (bs : List ℕ) → P v bs → item_count v < 2 ^ 63 → Q v) → (pair : Pair) (bs : List ℕ) → IsEntry P pair bs → entry_count pair < 2 ^ 63 → FitsEntry Q pair
entry_fits_of P Q each pair bs is few =
    (prefixed_small (out-Pair pair).key is.0 is.3.1, is.3.0, each (out-Pair pair).value is.1 is.4 (omega (arith, entry_count-is pair)))

-- ---- by induction over types

mutual
  pub fits_of : (type : AvroType) (v : Value) (bs : List ℕ) → IsReading type v bs → item_count v < 2 ^ 63 → Fits type v
  fits_of null v bs is few = is.0
  fits_of boolean v bs is few = (is.0, is.1)
  fits_of int v bs is few = (is.0, is.1, (zigzag_fits-32 is.0).1 is.2.1)
  fits_of long v bs is few = (is.0, is.1, (zigzag_fits-64 is.0).1 is.2.below)
  fits_of bytes v bs is few = (is.0, is.1, prefixed_small is.0 bs is.2)
  fits_of string v bs is few = (is.0, is.1, prefixed_small is.0 bs is.2.1, is.2.0)
  fits_of (fixed_of name size) v bs is few = (bs, is.0, is.1)
  fits_of (enum_of name symbols) v bs is few = (is.0, is.1, is.2, index_small is.0 bs is.3)
  fits_of (array_of inner) v bs is few =
      let vs : List Value = flat is.0 in
      let counted : item_count v ≡ sum_by item_count vs + length vs = ap item_count is.1 ∙ item_count-Array vs in
      (vs, is.1, omega arith, blocks_fit (IsReading inner) (Fits inner) item_count (fits_of inner) is.0 bs is.2 (omega arith))
  fits_of (map_of inner) v bs is few =
      let pairs : List Pair = flat is.0 in
      let counted : item_count v ≡ sum_by entry_count pairs + length pairs = ap item_count is.1 ∙ item_count-Map pairs in
      (pairs, is.1, omega arith, blocks_fit (IsEntry (IsReading inner)) (FitsEntry (Fits inner)) entry_count (entry_fits_of (IsReading inner) (Fits inner) (fits_of inner)) is.0 bs is.2 (omega arith))
  fits_of (union_of branches) v bs is few =
      let counted : item_count v ≡ item_count is.1 = ap item_count is.4 ∙ item_count-Union is.0 is.1 in
      (is.0, is.1, is.4, index_small is.0 is.2 is.6, branch_of branches is.0 is.1 is.3 is.7 (omega arith))
  fits_of (record_of name fields) v bs is few =
      let counted : item_count v ≡ sum_by item_count is.0 = ap item_count is.1 ∙ item_count-Record is.0 in
      (is.0, is.1, fields_of_reading fields is.0 bs is.2 (omega arith))

  branch_of : (branches : Branches) (n : ℕ) (v : Value) (bs : List ℕ) → IsBranch branches n v bs → item_count v < 2 ^ 63 → FitsBranch branches n v
  branch_of no_branches n v bs is few = absurd is
  branch_of (branch type more) zero v bs is few = fits_of type v bs is few
  branch_of (branch type more) (suc n) v bs is few = branch_of more n v bs is few

  fields_of_reading : (fields : Fields) (vs : List Value) (bs : List ℕ) → AreFields fields vs bs → sum_by item_count vs < 2 ^ 63 → FitFields fields vs
  fields_of_reading no_fields vs bs is few = is.0
  fields_of_reading (field name type more) vs bs is few =
      let cut : sum_by item_count vs ≡ item_count is.0 + sum_by item_count is.1 = ap (sum_by item_count) is.4 ∙ sum_by-cons item_count is.0 is.1 in
      (is.0, is.1, is.4, fits_of type is.0 is.2 is.6 (omega arith), fields_of_reading more is.1 is.3 is.7 (omega arith))
