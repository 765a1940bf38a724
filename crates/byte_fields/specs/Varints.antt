-- Varints and zigzag numbers: "Binary Encoding" of the Avro specification, and "Integer encoding" of Thrift's compact
-- protocol. A number stands in groups of seven bits, least first, a byte each; the high bit is set on all but the last.
use Rattle.std.specs.Prelude.{◌≡◌, ◌<◌, ◌≤◌, ℕ, zero, suc, ◌+◌, ◌*◌, ◌/◌, ◌%◌, ◌^◌, ℤ, pos, negsuc, Bool, nat_lt, ◌==◌, if◌then◌else◌, List, [], ◌∷◌, slice_index, length, take, drop, position, Option, Some, None, Ok, Err}
use Rattle.byte_fields.specs.declared.field_error.FieldError.TheVariants.{Short, Bad}
use Rattle.byte_fields.specs.Reading.{Reading, ◌>>=◌, only_if}

-- ---- written

-- a number in at most so many groups
unfoldable pub groups_of : ℕ → ℕ → List ℕ
groups_of zero n = []
groups_of (suc count) n = if nat_lt n 128 then n ∷ [] else (128 + n % 128) ∷ groups_of count (n / 128)

-- the written form of a number below 2^64, which takes no group more than it needs
unfoldable pub varint : ℕ → List ℕ
varint n = groups_of 10 n

-- signed numbers by size: 0, -1, 1, -2, 2 and so on
abbrev pub zigzag : ℤ → ℕ
zigzag (pos n) = 2 * n
zigzag (negsuc n) = 2 * n + 1

-- ---- read

-- the number in groups
unfoldable pub groups_number : List ℕ → ℕ
groups_number [] = 0
groups_number (byte ∷ bytes) = byte % 128 + 128 * groups_number bytes

-- the bytes of one varint, of which the first is given: each but the last has its high bit set
abbrev pub IsGroupsFrom : ℕ → List ℕ → Type 0
IsGroupsFrom byte [] = byte < 128
IsGroupsFrom byte (next ∷ bytes) = (128 ≤ byte) × IsGroupsFrom next bytes

-- the bytes of one varint
abbrev pub IsGroups : List ℕ → Type 0
IsGroups [] = ⊥
IsGroups (byte ∷ bytes) = IsGroupsFrom byte bytes

-- the bytes are a varint of the number
pub record IsVarint (bytes : List ℕ) (n : ℕ) : Type 0 where
  pub groups : IsGroups bytes
  pub at_most_ten : length bytes ≤ 10
  pub number : groups_number bytes ≡ n
  pub below : n < 2 ^ 64

-- the last byte of a varint
abbrev pub is_last : ℕ → Bool
is_last byte = nat_lt byte 128

-- the bytes up to the last one, whose offset is given
abbrev pub groups_to : Option ℕ → List ℕ → Reading (List ℕ)
groups_to (Some last) bytes = Ok (take (last + 1) bytes, drop (last + 1) bytes)
groups_to None bytes = if nat_lt (length bytes) 10 then Err (Short (length bytes)) else Err (Bad (length bytes))

-- the bytes of a varint, of which there are at most ten
unfoldable pub groups_at : List ℕ → Reading (List ℕ)
groups_at bytes = groups_to (position is_last (take 10 bytes)) bytes

-- A number below 2^w, for w up to 64. It may stand in more groups than it needs.
unfoldable pub varint_at : ℕ → List ℕ → Reading ℕ
varint_at w bytes = do
  groups ← groups_at bytes
  only_if (nat_lt (groups_number groups.0) (2 ^ w)) bytes (groups_number groups.0, groups.1)

-- the number that `zigzag` takes there
abbrev pub unzigzag : ℕ → ℤ
unzigzag n = if n % 2 == 0 then pos (n / 2) else negsuc (n / 2)

-- a signed number of w bits, for w up to 64
unfoldable pub zigzag_at : ℕ → List ℕ → Reading ℤ
zigzag_at w bytes = do
  found ← varint_at w bytes
  Ok (unzigzag found.0, found.1)

-- ---- refusals

-- the bytes end inside a varint: there are fewer than ten of them, and each has its high bit set
pub record EndsInside (bytes : List ℕ) : Type 0 where
  pub few : length bytes < 10
  pub none_is_last : (i : ℕ) → i < length bytes → 128 ≤ slice_index bytes i
