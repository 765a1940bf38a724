-- How the fields of Parquet's structs are read: "Metadata" of the Parquet format, over Thrift's compact protocol.
use Rattle.std.specs.Prelude.{ℕ, zero, suc, ℤ, pos, negsuc, Bool, false, ◌==◌, if◌then◌else◌, List, [], ◌∷◌, Option, Ok, Err}
use Rattle.byte_fields.specs.declared.field_error.FieldError.TheVariants.{Bad}
use Rattle.byte_fields.specs.Reading.{Reading, ◌>>=◌, only_if, only_some}
use Rattle.byte_fields.specs.Varints.{varint_at, zigzag_at}
use Rattle.byte_fields.specs.Prefixed.{prefixed_at}
use Rattle.thrift_compact.specs.Heads.{list_at}
use Rattle.thrift_compact.specs.Values.{struct_at, value_at}

-- the number is this one
abbrev pub is_number : ℕ → ℤ → Bool
is_number known (pos n) = n == known
is_number known (negsuc n) = false

-- a binary
abbrev pub binary_at : List ℕ → Reading (List ℕ)
binary_at = prefixed_at (varint_at 32)

-- A field's value, if the field has the wanted type. Else the field is bad, of which `left` tells where it begins.
abbrev pub typed_at : {A : Type 0} → ℕ → (List ℕ → Reading A) → ℕ → ℕ → List ℕ → Reading A
typed_at wanted read kind left bytes = if kind == wanted then read bytes else Err (Bad left)

-- the types of known fields
abbrev pub i32_field_at : ℕ → ℕ → List ℕ → Reading ℤ
i32_field_at = typed_at 5 (zigzag_at 32)

abbrev pub i64_field_at : ℕ → ℕ → List ℕ → Reading ℤ
i64_field_at = typed_at 6 (zigzag_at 64)

abbrev pub binary_field_at : ℕ → ℕ → List ℕ → Reading (List ℕ)
binary_field_at = typed_at 8 binary_at

-- any other field, which is passed over
abbrev pub other_field_at : {S : Type 0} → S → ℕ → List ℕ → Reading S
other_field_at so_far kind bytes = value_at 32 kind bytes >>= λ found. Ok (so_far, found.1)

-- what was read so far, with the value of one more field
abbrev pub with_value : {A S : Type 0} → (A → S) → Reading A → Reading S
with_value set read = read >>= λ found. Ok (set found.0, found.1)

-- A struct whose required fields are there; else its stop byte is bad.
abbrev pub whole_at : {S A : Type 0} → (S → ℤ → ℕ → ℕ → List ℕ → Reading S) → S → (S → Option A) → List ℕ → Reading A
whole_at take nothing whole bytes =
    struct_at take nothing bytes >>= λ found. only_some (whole found.0) (0 ∷ found.1) >>= λ x. Ok (x, found.1)

-- so many items
unfoldable pub items_at : {A : Type 0} → (List ℕ → Reading A) → ℕ → List ℕ → Reading (List A)
items_at read zero bytes = Ok ([], bytes)
items_at read (suc count) bytes = read bytes >>= λ first. items_at read count first.1 >>= λ more.
    Ok (first.0 ∷ more.0, more.1)

-- a list whose items have the wanted type; else its head is bad
unfoldable pub list_of_at : {A : Type 0} → ℕ → (List ℕ → Reading A) → List ℕ → Reading (List A)
list_of_at wanted read bytes = list_at bytes >>= λ head. only_if (head.0.0 == wanted) bytes head >>= λ head.
    items_at read head.0.1 head.1

-- a field that is such a list
abbrev pub list_field_at : {A : Type 0} → ℕ → (List ℕ → Reading A) → ℕ → ℕ → List ℕ → Reading (List A)
list_field_at wanted read = typed_at 9 (list_of_at wanted read)
