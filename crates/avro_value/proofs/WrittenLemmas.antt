-- The written form of a value of a type is a reading of it.
use Rattle.std.proofs.Common.{◌≡◌, ℕ, zero, suc, ◌^◌, ◌<◌, List, [], ◌∷◌, ◌++◌, length, map, ℤ, pos, refl, sym, ap, subst, ◌∙◌, arith, inl}
use Rattle.std.specs.Prelude.{flat_map}
use Rattle.std.specs.List.{AllByRecursion}
use Rattle.std.proofs.lemmas.List.{append-nil, length-map}
use Rattle.byte_fields.specs.Varints.{IsVarint, varint, zigzag}
use Rattle.byte_fields.specs.Prefixed.{with_length, long_bytes}
use Rattle.byte_fields.proofs.VarintLemmas.{IsVarint-varint, varint-one, zigzag_fits-32, zigzag_fits-64}
use Rattle.hudi_base.specs.declared.value.Value.{Value, Fixed, Array, Map}
use Rattle.hudi_base.specs.declared.value.Pair.{Pair, out-Pair}
use Rattle.avro_schema.specs.AvroTypes.{AvroType, null, boolean, int, long, bytes, string, fixed_of, enum_of, array_of, map_of, union_of, record_of, Branches, no_branches, branch, Fields, no_fields, field}
use Rattle.avro_schema.specs.Grammar.{IsLong, IsInt, IsPrefixed, IsText, IsEntry, AreItems, AreBlocks, IsReading, IsBranch, AreFields}
use Rattle.avro_schema.specs.Fits.{FitsEntry, Fits, FitsBranch, FitFields}
use Rattle.avro_schema.specs.Written.{written, written_entry, block_of}
use Rattle.avro_value.proofs.BlockLemmas.{flat}
use Rattle.avro_value.proofs.Values.{written-Null, written-Boolean, written-Int, written-Long, written-Bytes, written-Text, written-Fixed, written-Enum, written-Array, written-Map, written-Union, written-Record, written_entry-is}

long_is : (z : ℤ) → zigzag z < 2 ^ 64 → IsLong z (varint (zigzag z))
long_is z small = IsVarint-varint (zigzag z) small

int_is : (z : ℤ) → zigzag z < 2 ^ 32 → IsInt z (varint (zigzag z))
int_is z small = (IsVarint-varint (zigzag z) (omega arith), small)

index_is : (n : ℕ) → n < 2 ^ 31 → IsInt (pos n) (long_bytes n)
index_is n small = int_is (pos n) (omega arith)

prefixed_is : (content : List ℕ) → length content < 2 ^ 63 → IsPrefixed content (with_length long_bytes content)
unfolding with_length
prefixed_is content small = (long_bytes (length content), refl, long_is (pos (length content)) (omega arith))

zero_is : IsLong (pos 0) (0 ∷ [])
zero_is = subst (λ (bs : List ℕ). IsVarint bs 0) (varint-one 0 (omega arith)) (IsVarint-varint 0 (omega arith))

-- ---- lists

module _ {A : Type 0} (P : A → List ℕ → Type 0) (Q : A → Type 0) (form : A → List ℕ) (each : (x : A) → Q x → P x (form x)) where
  items_are : (xs : List A) → AllByRecursion Q xs → AreItems P xs (flat_map (λ bs. bs) (map form xs))
  items_are [] all = refl
  items_are (x ∷ xs) all = (form x, flat_map (λ bs. bs) (map form xs), refl, each x all.0, items_are xs all.1)

  -- the one block of items, if there are any
  abbrev one_block : List A → List (List A)
  one_block [] = []
  one_block (x ∷ xs) = (x ∷ xs) ∷ []

  one_block_flat : (xs : List A) → xs ≡ flat (one_block xs)
  one_block_flat [] = refl
  one_block_flat (x ∷ xs) = sym (append-nil (x ∷ xs))

  blocks_are : (xs : List A) → length xs < 2 ^ 63 → AllByRecursion Q xs → AreBlocks P (one_block xs) (block_of (map form xs))
  blocks_are [] small all = zero_is
  blocks_are (x ∷ xs) small all =
      let items : List A = x ∷ xs in
      let body : List ℕ = flat_map (λ bs. bs) (map form items) in
      let count : long_bytes (length (map form items)) ≡ long_bytes (length items) = ap long_bytes (length-map items form) in
      (long_bytes (length items), body, 0 ∷ [], ap (λ (head : List ℕ). head ++ (body ++ 0 ∷ [])) count, omega arith, inl (long_is (pos (length items)) (omega arith)), items_are items all, zero_is)

entry_is : (P : Value → List ℕ → Type 0) (Q : Value → Type 0) → ((v : Value) → Q v → P v (written v)) → (pair : Pair) → FitsEntry Q pair → IsEntry P pair (written_entry pair)
entry_is P Q each pair fits =
    (with_length long_bytes (out-Pair pair).key, written (out-Pair pair).value, written_entry-is pair, (fits.1, prefixed_is (out-Pair pair).key fits.0), each (out-Pair pair).value fits.2)

-- ---- by induction over types

mutual
  pub written_is : (type : AvroType) (v : Value) → Fits type v → IsReading type v (written v)
  written_is null v fits = (fits, ap written fits ∙ written-Null)
  written_is boolean v fits = (fits.0, fits.1, ap written fits.1 ∙ written-Boolean fits.0)
  written_is int v fits = (fits.0, fits.1, subst (IsInt fits.0) (sym (ap written fits.1 ∙ written-Int fits.0)) (int_is fits.0 ((zigzag_fits-32 fits.0).0 fits.2)))
  written_is long v fits = (fits.0, fits.1, subst (IsLong fits.0) (sym (ap written fits.1 ∙ written-Long fits.0)) (long_is fits.0 ((zigzag_fits-64 fits.0).0 fits.2)))
  written_is bytes v fits = (fits.0, fits.1, subst (IsPrefixed fits.0) (sym (ap written fits.1 ∙ written-Bytes fits.0)) (prefixed_is fits.0 fits.2))
  written_is string v fits = (fits.0, fits.1, subst (IsText fits.0) (sym (ap written fits.1 ∙ written-Text fits.0)) (fits.3, prefixed_is fits.0 fits.2))
  written_is (fixed_of name size) v fits =
      let same : written v ≡ fits.0 = ap written fits.1 ∙ written-Fixed fits.0 in
      (fits.1 ∙ ap Fixed (sym same), ap length same ∙ fits.2)
  written_is (enum_of name symbols) v fits = (fits.0, fits.1, fits.2, subst (IsInt (pos fits.0)) (sym (ap written fits.1 ∙ written-Enum fits.0)) (index_is fits.0 fits.3))
  written_is (array_of inner) v fits =
      let vs : List Value = fits.0 in
      let blocks : List (List Value) = one_block (IsReading inner) (Fits inner) written (written_is inner) vs in (
        blocks,
        fits.1 ∙ ap Array (one_block_flat (IsReading inner) (Fits inner) written (written_is inner) vs),
        subst (AreBlocks (IsReading inner) blocks) (sym (ap written fits.1 ∙ written-Array vs)) (blocks_are (IsReading inner) (Fits inner) written (written_is inner) vs fits.2 fits.3),
      )
  written_is (map_of inner) v fits =
      let pairs : List Pair = fits.0 in
      let each = entry_is (IsReading inner) (Fits inner) (written_is inner) in
      let blocks : List (List Pair) = one_block (IsEntry (IsReading inner)) (FitsEntry (Fits inner)) written_entry each pairs in (
        blocks,
        fits.1 ∙ ap Map (one_block_flat (IsEntry (IsReading inner)) (FitsEntry (Fits inner)) written_entry each pairs),
        subst (AreBlocks (IsEntry (IsReading inner)) blocks) (sym (ap written fits.1 ∙ written-Map pairs)) (blocks_are (IsEntry (IsReading inner)) (FitsEntry (Fits inner)) written_entry each pairs fits.2 fits.3),
      )
  written_is (union_of branches) v fits =
      (fits.0, fits.1, long_bytes fits.0, written fits.1, fits.2, ap written fits.2 ∙ written-Union fits.0 fits.1, index_is fits.0 fits.3, written_branch branches fits.0 fits.1 fits.4)
  written_is (record_of name fields) v fits =
      (fits.0, fits.1, subst (AreFields fields fits.0) (sym (ap written fits.1 ∙ written-Record fits.0)) (written_fields fields fits.0 fits.2))

  written_branch : (branches : Branches) (n : ℕ) (v : Value) → FitsBranch branches n v → IsBranch branches n v (written v)
  written_branch no_branches n v fits = absurd fits
  written_branch (branch type more) zero v fits = written_is type v fits
  written_branch (branch type more) (suc n) v fits = written_branch more n v fits

  written_fields : (fields : Fields) (vs : List Value) → FitFields fields vs → AreFields fields vs (flat_map (λ bs. bs) (map written vs))
  written_fields no_fields vs fits = (fits, ap (λ (ws : List Value). flat_map (λ bs. bs) (map written ws)) fits)
  written_fields (field name type more) vs fits =
      (fits.0, fits.1, written fits.0, flat_map (λ bs. bs) (map written fits.1), fits.2, ap (λ (ws : List Value). flat_map (λ bs. bs) (map written ws)) fits.2, written_is type fits.0 fits.3, written_fields more fits.1 fits.4)
