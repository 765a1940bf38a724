-- Which bytes are a reading of which value: "Binary Encoding" of the Avro specification, under a type. What is written is
-- one of these, in `Written`.
use Rattle.std.specs.Prelude.{◌≡◌, ◌⊎◌, ◌<◌, ◌^◌, ℕ, zero, suc, ◌-◌, ℤ, pos, negsuc, Bool, if◌then◌else◌, List, [], ◌∷◌, ◌++◌, length, flat_map, IsUtf8}
use Rattle.hudi_base.specs.declared.value.Value.{Value, Null, Boolean, Int, Long, Bytes, Text, Fixed, Enum, Array, Map, Union, Record}
use Rattle.hudi_base.specs.declared.value.Pair.{Pair, out-Pair}
use Rattle.byte_fields.specs.Varints.{IsVarint, zigzag}
use Rattle.avro_schema.specs.AvroTypes.{AvroType, null, boolean, int, long, bytes, string, fixed_of, enum_of, array_of, map_of, union_of, record_of, Branches, no_branches, branch, Fields, no_fields, field}

-- ---- primitives

-- a number in groups of seven bits, which need not be the shortest
abbrev pub IsLong : ℤ → List ℕ → Type 0
IsLong z bs = IsVarint bs (zigzag z)

-- one of 32 bits
abbrev pub IsInt : ℤ → List ℕ → Type 0
IsInt z bs = IsVarint bs (zigzag z) × (zigzag z < 2 ^ 32)

-- bytes behind their length
abbrev pub IsPrefixed : List ℕ → List ℕ → Type 0
IsPrefixed content bs = (len : List ℕ) × (bs ≡ len ++ content) × IsLong (pos (length content)) len

abbrev pub IsText : List ℕ → List ℕ → Type 0
IsText content bs = IsUtf8 content × IsPrefixed content bs

-- ---- lists, of whose items P says which bytes are a reading of which

-- the readings of items, one behind another
abbrev pub AreItems : {A : Type 0} → (A → List ℕ → Type 0) → List A → List ℕ → Type 0
AreItems P [] bs = bs ≡ []
AreItems P (x ∷ xs) bs = (first rest : List ℕ) × (bs ≡ first ++ rest) × P x first × AreItems P xs rest

-- what stands before n items in so many bytes: n, or -n and the number of bytes
abbrev pub IsBlockHead : ℕ → ℕ → List ℕ → Type 0
IsBlockHead n len bs = IsLong (pos n) bs ⊎ ((count size : List ℕ) × (bs ≡ count ++ size) × IsLong (negsuc (n - 1)) count × IsLong (pos len) size)

-- blocks of items, none of them empty, and the count 0
abbrev pub AreBlocks : {A : Type 0} → (A → List ℕ → Type 0) → List (List A) → List ℕ → Type 0
AreBlocks P [] bs = IsLong (pos 0) bs
AreBlocks P (items ∷ blocks) bs =
    (head body rest : List ℕ) × (bs ≡ head ++ (body ++ rest)) × (0 < length items) × IsBlockHead (length items) (length body) head
    × AreItems P items body × AreBlocks P blocks rest

-- an entry of a map: a string and a value
abbrev pub IsEntry : (Value → List ℕ → Type 0) → Pair → List ℕ → Type 0
IsEntry P pair bs = (key rest : List ℕ) × (bs ≡ key ++ rest) × IsText (out-Pair pair).key key × P (out-Pair pair).value rest

-- ---- types

abbrev mutual
  pub IsReading : AvroType → Value → List ℕ → Type 0
  IsReading null v bs = (v ≡ Null) × (bs ≡ [])
  IsReading boolean v bs = (b : Bool) × (v ≡ Boolean b) × (bs ≡ (if b then 1 else 0) ∷ [])
  IsReading int v bs = (z : ℤ) × (v ≡ Int z) × IsInt z bs
  IsReading long v bs = (z : ℤ) × (v ≡ Long z) × IsLong z bs
  IsReading bytes v bs = (content : List ℕ) × (v ≡ Bytes content) × IsPrefixed content bs
  IsReading string v bs = (content : List ℕ) × (v ≡ Text content) × IsText content bs
  IsReading (fixed_of name size) v bs = (v ≡ Fixed bs) × (length bs ≡ size)
  IsReading (enum_of name symbols) v bs = (n : ℕ) × (v ≡ Enum n) × (n < length symbols) × IsInt (pos n) bs
  IsReading (array_of inner) v bs = (blocks : List (List Value)) × (v ≡ Array (flat_map (λ items. items) blocks)) × AreBlocks (IsReading inner) blocks bs
  IsReading (map_of inner) v bs = (blocks : List (List Pair)) × (v ≡ Map (flat_map (λ items. items) blocks)) × AreBlocks (IsEntry (IsReading inner)) blocks bs
  IsReading (union_of branches) v bs =
      (n : ℕ) × (w : Value) × (index rest : List ℕ) × (v ≡ Union n w) × (bs ≡ index ++ rest) × IsInt (pos n) index × IsBranch branches n w rest
  IsReading (record_of name fields) v bs = (vs : List Value) × (v ≡ Record vs) × AreFields fields vs bs

  -- under the branch at an index
  pub IsBranch : Branches → ℕ → Value → List ℕ → Type 0
  IsBranch no_branches n v bs = ⊥
  IsBranch (branch type more) zero v bs = IsReading type v bs
  IsBranch (branch type more) (suc n) v bs = IsBranch more n v bs

  -- the values of fields, one behind another
  pub AreFields : Fields → List Value → List ℕ → Type 0
  AreFields no_fields vs bs = (vs ≡ []) × (bs ≡ [])
  AreFields (field name type more) vs bs =
      (v : Value) × (ws : List Value) × (first rest : List ℕ) × (vs ≡ v ∷ ws) × (bs ≡ first ++ rest) × IsReading type v first × AreFields more ws rest
