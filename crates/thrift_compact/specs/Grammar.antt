-- Which bytes are a value and which are a struct: Thrift's compact protocol by cases, apart from how it is read.
use Rattle.std.specs.Prelude.{◌≡◌, ◌≢◌, ℕ, zero, suc, ◌/◌, ◌%◌, ◌<◌, ◌^◌, ◌⊎◌, ℤ, pos, ◌+ℤ◌, true, false, int_le, List, [], ◌∷◌, ◌++◌, length, Some}
use Rattle.byte_fields.specs.Varints.{IsVarint, zigzag}
use Rattle.thrift_compact.specs.declared.skipping.Shape.TheVariants.{OfScalar, OfContainer}
use Rattle.thrift_compact.specs.declared.skipping.Scalar.{Scalar}
use Rattle.thrift_compact.specs.declared.skipping.Scalar.TheVariants.{Empty, Byte, I16, I32, I64, Double, Binary}
use Rattle.thrift_compact.specs.declared.skipping.Container.{Container}
use Rattle.thrift_compact.specs.declared.skipping.Container.TheVariants.{Items, Pairs, Fields}
use Rattle.thrift_compact.specs.Types.{is_type, is_boolean, shape_of}

-- ---- values that hold no others

-- a varint of a number below 2^w
abbrev pub IsSize : ℕ → ℕ → List ℕ → Type 0
IsSize w n bytes = IsVarint bytes n × (n < 2 ^ w)

-- a signed number of w bits, in its zigzag form
abbrev pub IsNumber : ℕ → List ℕ → Type 0
IsNumber w bytes = (z : ℤ) × IsSize w (zigzag z) bytes

-- bytes behind the varint of their length
abbrev pub IsBinary : List ℕ → Type 0
IsBinary bytes = (size content : List ℕ) × (bytes ≡ size ++ content) × IsSize 32 (length content) size

abbrev pub IsScalar : Scalar → List ℕ → Type 0
IsScalar Empty bytes = bytes ≡ []
IsScalar Byte bytes = length bytes ≡ 1
IsScalar I16 bytes = IsNumber 16 bytes
IsScalar I32 bytes = IsNumber 32 bytes
IsScalar I64 bytes = IsNumber 64 bytes
IsScalar Double bytes = length bytes ≡ 8
IsScalar Binary bytes = IsBinary bytes

-- ---- lists, sets and maps, given what a value in them is

-- an item, a key or a value in a map: a boolean is a byte of any value
abbrev pub IsItem : (ℕ → List ℕ → Type 0) → ℕ → List ℕ → Type 0
IsItem Value kind bytes = ((is_boolean kind ≡ true) × (length bytes ≡ 1))
    ⊎ ((is_boolean kind ≡ false) × Value kind bytes)

-- so many parts, one after another
abbrev pub AreParts : (List ℕ → Type 0) → ℕ → List ℕ → Type 0
AreParts Part zero bytes = bytes ≡ []
AreParts Part (suc n) bytes = (first more : List ℕ) × (bytes ≡ first ++ more) × Part first × AreParts Part n more

-- the head of a list or a set of so many items of a type
abbrev pub IsListHead : ℕ → ℕ → List ℕ → Type 0
IsListHead kind n [] = ⊥
IsListHead kind n (byte ∷ more) = (is_type kind ≡ true) × (kind ≡ byte % 16)
    × (((byte / 16 ≡ 15) × IsSize 32 n more) ⊎ ((byte / 16 ≢ 15) × (n ≡ byte / 16) × (more ≡ [])))

-- a key and its value
abbrev pub IsPair : (ℕ → List ℕ → Type 0) → ℕ → ℕ → List ℕ → Type 0
IsPair Value key_kind value_kind bytes = (key value : List ℕ) × (bytes ≡ key ++ value) × IsItem Value key_kind key
    × IsItem Value value_kind value

-- the byte of the types of a map's keys and values
pub record IsPairTypes (key_kind value_kind byte : ℕ) : Type 0 where
  pub key : key_kind ≡ byte / 16
  pub value : value_kind ≡ byte % 16
  pub known_key : is_type key_kind ≡ true
  pub known_value : is_type value_kind ≡ true

-- a map's size, and, where it isn't 0, the types and so many pairs
abbrev pub IsMap : (ℕ → List ℕ → Type 0) → List ℕ → Type 0
IsMap Value bytes =
    IsSize 32 0 bytes
    ⊎ ((n key_kind value_kind byte : ℕ) × (size pairs : List ℕ) × (bytes ≡ size ++ byte ∷ pairs) × (n ≢ 0)
    × IsSize 32 n size × IsPairTypes key_kind value_kind byte × AreParts (IsPair Value key_kind value_kind) n pairs)

-- ---- structs

-- a field: its id, its type and the bytes of its value, which are kept as they stand
pub record RawField : Type 0 where
  pub id : ℤ
  pub kind : ℕ
  pub value : List ℕ

-- the head of a field behind one of the id `last`: in the short form, by the difference, or in the long form
abbrev pub IsFieldHead : ℤ → ℤ → ℕ → List ℕ → Type 0
IsFieldHead last id kind [] = ⊥
IsFieldHead last id kind (byte ∷ more) =
    (byte ≢ 0) × (is_type kind ≡ true) × (kind ≡ byte % 16)
    × (((byte / 16 ≡ 0) × IsSize 16 (zigzag id) more)
    ⊎ ((byte / 16 ≢ 0) × (id ≡ last +ℤ pos (byte / 16)) × (int_le id (pos 32767) ≡ true) × (more ≡ [])))

-- fields and the stop byte
abbrev pub AreFields : (ℕ → List ℕ → Type 0) → ℤ → List RawField → List ℕ → Type 0
AreFields Value last [] bytes = bytes ≡ 0 ∷ []
AreFields Value last (field ∷ fields) bytes = (head more : List ℕ) × (bytes ≡ head ++ (field.value ++ more))
    × IsFieldHead last field.id field.kind head × Value field.kind field.value × AreFields Value field.id fields more

-- ---- any value

abbrev pub IsContainer : (ℕ → List ℕ → Type 0) → Container → List ℕ → Type 0
IsContainer Value Items bytes = (kind n : ℕ) × (head items : List ℕ) × (bytes ≡ head ++ items) × IsListHead kind n head
    × AreParts (IsItem Value kind) n items
IsContainer Value Pairs bytes = IsMap Value bytes
IsContainer Value Fields bytes = (fields : List RawField) × AreFields Value (pos 0) fields bytes

-- a value of the type, with containers in at most so many levels
unfoldable pub IsValue : ℕ → ℕ → List ℕ → Type 0
IsValue zero kind bytes = (scalar : Scalar) × (shape_of kind ≡ Some (OfScalar scalar)) × IsScalar scalar bytes
IsValue (suc levels) kind bytes =
    ((scalar : Scalar) × (shape_of kind ≡ Some (OfScalar scalar)) × IsScalar scalar bytes)
    ⊎ ((container : Container) × (shape_of kind ≡ Some (OfContainer container))
    × IsContainer (IsValue levels) container bytes)
