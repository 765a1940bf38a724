-- Bytes and texts behind their length.
use Rattle.std.specs.Prelude.{ℕ, ℤ, pos, negsuc, List, ◌++◌, length, take, drop, nat_lt, if◌then◌else◌, Option, Some, None, Ok, Err}
use Rattle.std.specs.Str.{is_utf8}
use Rattle.byte_fields.specs.declared.field_error.FieldError.TheVariants.{Short}
use Rattle.byte_fields.specs.Reading.{Reading, ◌>>=◌, as_item, only_if, only_some}
use Rattle.byte_fields.specs.Varints.{varint, zigzag, zigzag_at}

-- ---- written

-- bytes behind their length, which is written by `length_bytes`
unfoldable pub with_length : (ℕ → List ℕ) → List ℕ → List ℕ
with_length length_bytes content = length_bytes (length content) ++ content

-- a length as Avro's long
abbrev pub long_bytes : ℕ → List ℕ
long_bytes n = varint (zigzag (pos n))

-- ---- read

-- n bytes
unfoldable pub bytes_at : ℕ → List ℕ → Reading (List ℕ)
bytes_at n bytes = if nat_lt (length bytes) n then Err (Short (length bytes)) else Ok (take n bytes, drop n bytes)

-- a length and then so many bytes, as two items
unfoldable pub length_then_bytes_at : (List ℕ → Reading ℕ) → List ℕ → Reading (List ℕ)
length_then_bytes_at length_at bytes = do
  len ← length_at bytes
  bytes_at len.0 len.1

-- a length and then so many bytes, as one item
unfoldable pub prefixed_at : (List ℕ → Reading ℕ) → List ℕ → Reading (List ℕ)
prefixed_at length_at bytes = as_item bytes (length_then_bytes_at length_at bytes)

-- the number, unless it is negative
abbrev pub nonnegative : ℤ → Option ℕ
nonnegative (pos n) = Some n
nonnegative (negsuc n) = None

-- a length as Avro's long, which has 64 bits and isn't negative
unfoldable pub long_length_at : List ℕ → Reading ℕ
long_length_at bytes = do
  long ← zigzag_at 64 bytes
  len ← only_some (nonnegative long.0) bytes
  Ok (len, long.1)

-- a text in UTF-8 behind its length, as one item
unfoldable pub text_at : (List ℕ → Reading ℕ) → List ℕ → Reading (List ℕ)
text_at length_at bytes = do
  content ← prefixed_at length_at bytes
  only_if (is_utf8 content.0) bytes content
