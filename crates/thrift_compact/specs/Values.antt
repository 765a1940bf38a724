-- The values of fields and of items that a reader passes over, and the fields of a struct: Thrift's compact protocol.
use Rattle.std.specs.Prelude.{ℕ, zero, suc, ℤ, pos, if◌then◌else◌, List, [], ◌∷◌, length, Ok, Err}
use Rattle.std.specs.Option.{option_map_or}
use Rattle.byte_fields.specs.declared.field_error.FieldError.TheVariants.{Short, Bad}
use Rattle.byte_fields.specs.Reading.{Reading, ◌>>=◌, only_some}
use Rattle.byte_fields.specs.Varints.{varint_at, zigzag_at}
use Rattle.byte_fields.specs.Prefixed.{bytes_at, prefixed_at}
use Rattle.thrift_compact.specs.declared.skipping.Shape.{Shape}
use Rattle.thrift_compact.specs.declared.skipping.Shape.TheVariants.{OfScalar, OfContainer}
use Rattle.thrift_compact.specs.declared.skipping.Scalar.{Scalar}
use Rattle.thrift_compact.specs.declared.skipping.Scalar.TheVariants.{Empty, Byte, I16, I32, I64, Double, Binary}
use Rattle.thrift_compact.specs.declared.skipping.Container.{Container}
use Rattle.thrift_compact.specs.declared.skipping.Container.TheVariants.{Items, Pairs, Fields}
use Rattle.thrift_compact.specs.Types.{is_boolean, shape_of}
use Rattle.thrift_compact.specs.Heads.{field_at, list_at, map_at}

-- what is read of a value that is passed over: nothing, and the bytes after it
abbrev pub Passing : Type 0
Passing = Reading (Unit {0})

-- a value of which nothing is kept
abbrev pub passed : {A : Type 0} → Reading A → Passing
passed read = read >>= λ found. Ok (tt, found.1)

-- ---- the fields of a struct

-- The fields up to the stop byte. `take` reads one field's value: it is given what was read so far, the field's id and
-- type, how many bytes there are from the field on, and the bytes from its value on. Each field takes a byte at least, so
-- as many steps as there are bytes are enough.
unfoldable pub fields_at : {S : Type 0} → (S → ℤ → ℕ → ℕ → List ℕ → Reading S) → ℕ → ℤ → S → List ℕ → Reading S
fields_at take zero last so_far bytes = Err (Short (length bytes))
fields_at take (suc steps) last so_far bytes =
    field_at last bytes >>= λ head.
    option_map_or (λ field. take so_far field.0 field.1 (length bytes) head.1 >>= λ next.
    fields_at take steps field.0 next.0 next.1) head.0 (Ok (so_far, head.1))

-- a struct's fields, of which the last id is 0 at first
abbrev pub struct_at : {S : Type 0} → (S → ℤ → ℕ → ℕ → List ℕ → Reading S) → S → List ℕ → Reading S
struct_at take nothing bytes = fields_at take (length bytes) (pos 0) nothing bytes

-- ---- values

-- one value after another, so many
unfoldable pub times_at : ℕ → (List ℕ → Passing) → List ℕ → Passing
times_at zero read bytes = Ok (tt, bytes)
times_at (suc count) read bytes = read bytes >>= λ first. times_at count read first.1

-- an item, key or value of a type: a boolean has a byte of any value
unfoldable pub item_at : (ℕ → List ℕ → Passing) → ℕ → List ℕ → Passing
item_at value kind bytes = if is_boolean kind then passed (bytes_at 1 bytes) else value kind bytes

-- a key and its value
unfoldable pub pair_at : (ℕ → List ℕ → Passing) → ℕ → ℕ → List ℕ → Passing
pair_at value key_kind value_kind bytes = item_at value key_kind bytes >>= λ key. item_at value value_kind key.1

-- a value that holds no others
unfoldable pub scalar_at : Scalar → List ℕ → Passing
scalar_at Empty bytes = Ok (tt, bytes)
scalar_at Byte bytes = passed (bytes_at 1 bytes)
scalar_at I16 bytes = passed (zigzag_at 16 bytes)
scalar_at I32 bytes = passed (zigzag_at 32 bytes)
scalar_at I64 bytes = passed (zigzag_at 64 bytes)
scalar_at Double bytes = passed (bytes_at 8 bytes)
scalar_at Binary bytes = passed (prefixed_at (varint_at 32) bytes)

-- a field that is passed over
abbrev pub passing : (ℕ → List ℕ → Passing) → Unit {0} → ℤ → ℕ → ℕ → List ℕ → Passing
passing value so_far id kind left bytes = value kind bytes

-- a list or a set, a map or a struct, given how the values in it are read
unfoldable pub container_at : (ℕ → List ℕ → Passing) → Container → List ℕ → Passing
container_at value Items bytes = list_at bytes >>= λ head. times_at head.0.1 (item_at value head.0.0) head.1
container_at value Pairs bytes = map_at bytes >>= λ head.
    option_map_or (λ pairs. times_at pairs.0 (pair_at value pairs.1 pairs.2) head.1) head.0 (Ok (tt, head.1))
container_at value Fields bytes = struct_at (passing value) tt bytes

-- a container one level too deep: bad at its first byte
abbrev pub too_deep_at : Container → List ℕ → Passing
too_deep_at container [] = Err (Short 0)
too_deep_at container (byte ∷ rest) = Err (Bad (length (byte ∷ rest)))

abbrev pub shaped_at : (Container → List ℕ → Passing) → Shape → List ℕ → Passing
shaped_at container (OfScalar scalar) bytes = scalar_at scalar bytes
shaped_at container (OfContainer shape) bytes = container shape bytes

-- The value of a field of the type, which must be one of the twelve, with containers in at most so many levels.
unfoldable pub value_at : ℕ → ℕ → List ℕ → Passing
value_at zero kind bytes = only_some (shape_of kind) bytes >>= λ shape. shaped_at too_deep_at shape bytes
value_at (suc levels) kind bytes = only_some (shape_of kind) bytes >>= λ shape.
    shaped_at (container_at (value_at levels)) shape bytes
