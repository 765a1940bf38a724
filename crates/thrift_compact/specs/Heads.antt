-- What begins a field, a list, a set and a map: "Struct encoding", "List and set" and "Map" of Thrift's compact protocol.
-- Each head is one item: what is wrong in it is wrong at its first byte.
use Rattle.std.specs.Prelude.{ℕ, ◌+◌, ◌*◌, ◌/◌, ◌%◌, ℤ, pos, ◌+ℤ◌, int_le, nat_lt, ◌==◌, ◌&&◌, if◌then◌else◌, List, [], ◌∷◌, length, Option, Some, None, Ok, Err}
use Rattle.byte_fields.specs.declared.field_error.FieldError.TheVariants.{Short, Bad}
use Rattle.byte_fields.specs.Reading.{Reading, ◌>>=◌, as_item, only_if}
use Rattle.byte_fields.specs.Varints.{varint, varint_at, zigzag_at}
use Rattle.thrift_compact.specs.Types.{is_type}

-- the two halves of a head's byte
abbrev pub high_half : ℕ → ℕ
high_half byte = byte / 16

abbrev pub low_half : ℕ → ℕ
low_half byte = byte % 16

-- ---- read

-- A field's id, of 16 bits: by its difference from the last one, or, where that is 0, as a number that follows.
unfoldable pub id_at : ℤ → ℕ → List ℕ → Reading ℤ
id_at last difference bytes =
    if difference == 0 then zigzag_at 16 bytes
    else only_if (int_le (last +ℤ pos difference) (pos 32767)) bytes (last +ℤ pos difference, bytes)

-- a field's id and type, or the stop byte of its struct
unfoldable pub field_at : ℤ → List ℕ → Reading (Option (ℤ × ℕ))
field_at last [] = Err (Short 0)
field_at last (byte ∷ rest) =
    if byte == 0 then Ok (None, rest)
    else if is_type (low_half byte) then as_item (byte ∷ rest)
    (id_at last (high_half byte) rest >>= λ id. Ok (Some (id.0, low_half byte), id.1))
    else Err (Bad (length (byte ∷ rest)))

-- how many items there are: below 15 in the head's first byte, else as a number that follows
unfoldable pub size_at : ℕ → List ℕ → Reading ℕ
size_at half bytes = if half == 15 then varint_at 32 bytes else Ok (half, bytes)

-- the type of the items of a list or a set, and how many there are
unfoldable pub list_at : List ℕ → Reading (ℕ × ℕ)
list_at [] = Err (Short 0)
list_at (byte ∷ rest) =
    if is_type (low_half byte) then as_item (byte ∷ rest)
    (size_at (high_half byte) rest >>= λ size. Ok ((low_half byte, size.0), size.1))
    else Err (Bad (length (byte ∷ rest)))

-- the types of a map's keys and values
unfoldable pub pair_types_at : List ℕ → Reading (ℕ × ℕ)
pair_types_at [] = Err (Short 0)
pair_types_at (byte ∷ rest) = only_if (is_type (high_half byte) && is_type (low_half byte)) (byte ∷ rest)
    ((high_half byte, low_half byte), rest)

-- the size of a map that has pairs, and their types
unfoldable pub map_parts_at : List ℕ → Reading (Option (ℕ × ℕ × ℕ))
map_parts_at bytes =
    varint_at 32 bytes >>= λ size.
    if size.0 == 0 then Ok (None, size.1) else
    (pair_types_at size.1 >>= λ types. Ok (Some (size.0, types.0.0, types.0.1), types.1))

-- the same as one item
unfoldable pub map_at : List ℕ → Reading (Option (ℕ × ℕ × ℕ))
map_at bytes = as_item bytes (map_parts_at bytes)

-- ---- written

-- a field's head in its short form, which tells the id by its difference from the last one
abbrev pub field_head : ℕ → ℕ → List ℕ
field_head difference kind = (difference * 16 + kind) ∷ []

-- the head of a list of so many items
unfoldable pub list_head : ℕ → ℕ → List ℕ
list_head kind size = if nat_lt size 15 then (size * 16 + kind) ∷ [] else (240 + kind) ∷ varint size
