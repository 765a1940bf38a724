-- Which values are of a type. A length and a count are longs, and an index is an int, so they have their limits.
use Rattle.std.specs.Prelude.{◌≡◌, ◌<◌, ◌^◌, ℕ, zero, suc, ℤ, Bool, List, [], ◌∷◌, length, IsUtf8}
use Rattle.std.specs.Int.{w32, w64}
use Rattle.std.specs.Prelude.{FitsSigned}
use Rattle.std.specs.List.{AllByRecursion}
use Rattle.hudi_base.specs.declared.value.Value.{Value, Null, Boolean, Int, Long, Bytes, Text, Fixed, Enum, Array, Map, Union, Record}
use Rattle.hudi_base.specs.declared.value.Pair.{Pair, out-Pair}
use Rattle.avro_schema.specs.AvroTypes.{AvroType, null, boolean, int, long, bytes, string, fixed_of, enum_of, array_of, map_of, union_of, record_of, Branches, no_branches, branch, Fields, no_fields, field}

-- an entry of a map, of whose value P is said
abbrev pub FitsEntry : (Value → Type 0) → Pair → Type 0
FitsEntry P pair = (length (out-Pair pair).key < 2 ^ 63) × IsUtf8 (out-Pair pair).key × P (out-Pair pair).value

abbrev mutual
  pub Fits : AvroType → Value → Type 0
  Fits null v = v ≡ Null
  Fits boolean v = (b : Bool) × (v ≡ Boolean b)
  Fits int v = (z : ℤ) × (v ≡ Int z) × FitsSigned w32 z
  Fits long v = (z : ℤ) × (v ≡ Long z) × FitsSigned w64 z
  Fits bytes v = (content : List ℕ) × (v ≡ Bytes content) × (length content < 2 ^ 63)
  Fits string v = (content : List ℕ) × (v ≡ Text content) × (length content < 2 ^ 63) × IsUtf8 content
  Fits (fixed_of name size) v = (content : List ℕ) × (v ≡ Fixed content) × (length content ≡ size)
  Fits (enum_of name symbols) v = (n : ℕ) × (v ≡ Enum n) × (n < length symbols) × (n < 2 ^ 31)
  Fits (array_of inner) v = (vs : List Value) × (v ≡ Array vs) × (length vs < 2 ^ 63) × AllByRecursion (Fits inner) vs
  Fits (map_of inner) v = (pairs : List Pair) × (v ≡ Map pairs) × (length pairs < 2 ^ 63) × AllByRecursion (FitsEntry (Fits inner)) pairs
  Fits (union_of branches) v = (n : ℕ) × (w : Value) × (v ≡ Union n w) × (n < 2 ^ 31) × FitsBranch branches n w
  Fits (record_of name fields) v = (vs : List Value) × (v ≡ Record vs) × FitFields fields vs

  pub FitsBranch : Branches → ℕ → Value → Type 0
  FitsBranch no_branches n v = ⊥
  FitsBranch (branch type more) zero v = Fits type v
  FitsBranch (branch type more) (suc n) v = FitsBranch more n v

  pub FitFields : Fields → List Value → Type 0
  FitFields no_fields vs = vs ≡ []
  FitFields (field name type more) vs = (v : Value) × (ws : List Value) × (vs ≡ v ∷ ws) × Fits type v × FitFields more ws
