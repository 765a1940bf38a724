-- The contents of data blocks, all numbers with the greatest byte first. This project's own.
use Rattle.std.specs.Prelude.{ℕ, zero, suc, ◌+◌, ◌==◌, ◌&&◌, ◌||◌, not, Bool, true, false, if◌then◌else◌, ℤ, List, [], ◌∷◌, ◌++◌, length, flat_map, Result, Ok, IsOk}
use Rattle.std.specs.Int.{cast_unsigned, w64}
use Rattle.byteorder.specs.Endian.{big_bytes, big_number}
use Rattle.byte_fields.specs.Numbers.{number_at, signed_at}
use Rattle.byte_fields.specs.Prefixed.{prefixed_at, with_length}
use Rattle.byte_fields.specs.Reading.{Reading, ◌>>=◌, only_if}
use Rattle.byte_fields.specs.declared.field_error.FieldError.{FieldError}
use Rattle.block_contents.specs.Contents.{with_offset}
use Rattle.payload_merge.specs.Contents.{DataPlace, DataReading}
use Rattle.payload_merge.specs.declared.row.Row.{Row}
use Rattle.plain_rows.specs.OwnRows.{is_sized_text, most_body_bytes, most_key_bytes}

-- ---- what is written

-- the rows stand at this place and the next ones, one after another
abbrev pub are_in_order : ℕ → List Row → Bool
are_in_order place [] = true
are_in_order place (row ∷ rows) = (row.seq == place) && are_in_order (place + 1) rows

-- the place of a row, where the content tells it
abbrev pub place_bytes : Bool → ℕ → List ℕ
place_bytes told seq = if told then big_bytes 4 seq else []

-- a key behind its length, a rank in two's complement, and a body behind its length
abbrev pub fields_bytes : List ℕ → ℤ → List ℕ → List ℕ
fields_bytes key rank body =
    with_length (big_bytes 4) key ++ (big_bytes 8 (cast_unsigned w64 rank) ++ with_length (big_bytes 4) body)

unfoldable pub row_bytes : Bool → Row → List ℕ
row_bytes told row = place_bytes told row.seq ++ fields_bytes row.key row.rank row.body

-- the version: 3, or 4 where each row tells its place
abbrev pub version : Bool → ℕ
version told = if told then 4 else 3

-- the version, the number of rows, and the rows
unfoldable pub told_bytes : Bool → List Row → List ℕ
told_bytes told rows = big_bytes 4 (version told) ++ (big_bytes 4 (length rows) ++ flat_map (row_bytes told) rows)

-- places are told only where they aren't 0, 1, 2 and so on
abbrev pub content_bytes : List Row → List ℕ
content_bytes rows = told_bytes (not (are_in_order 0 rows)) rows

-- ---- what is read

-- whether places are told
unfoldable pub told_at : List ℕ → Reading Bool
told_at bytes = do
  version ← number_at big_number 4 bytes
  only_if ((version.0 == 3) || (version.0 == 4)) bytes (version.0 == 4, version.1)

-- a text of at least and at most so many bytes, behind its length
unfoldable pub sized_at : ℕ → ℕ → List ℕ → Reading (List ℕ)
sized_at least most bytes = do
  text ← prefixed_at (number_at big_number 4) bytes
  only_if (is_sized_text least most text.0) bytes text

-- the place that is told, or this one
unfoldable pub place_at : Bool → ℕ → List ℕ → Reading ℕ
place_at true place bytes = number_at big_number 4 bytes
place_at false place bytes = Ok (place, bytes)

-- a row of an instant and a partition
unfoldable pub row_at : ℕ → List ℕ → Bool → ℕ → List ℕ → Reading Row
row_at instant partition told place bytes = do
  seq ← place_at told place bytes
  key ← sized_at 1 most_key_bytes seq.1
  rank ← signed_at big_number w64 8 key.1
  body ← sized_at 0 most_body_bytes rank.1
  Ok (
    record {
      partition = partition;
      key = key.0;
      rank = rank.0;
      commit = instant;
      seq = seq.0;
      body = body.0;
    },
    body.1,
  )

-- so many rows, from this place on
unfoldable pub rows_at : ℕ → List ℕ → Bool → ℕ → ℕ → List ℕ → Reading (List Row)
rows_at instant partition told place zero bytes = Ok ([], bytes)
rows_at instant partition told place (suc more) bytes = do
  row ← row_at instant partition told place bytes
  rows ← rows_at instant partition told (place + 1) more row.1
  Ok (row.0 ∷ rows.0, rows.1)

-- the rows of a content, behind which nothing stands
unfoldable pub content_at : ℕ → List ℕ → List ℕ → Result (List Row) FieldError
content_at instant partition bytes = do
  told ← told_at bytes
  count ← number_at big_number 4 told.1
  rows ← rows_at instant partition told.0 0 count.0 count.1
  only_if (length rows.1 == 0) rows.1 rows.0

-- the same with offsets: the rows, or the offset of the first field that can't be read
abbrev pub rows_in : DataReading
rows_in place content = with_offset (length content) (content_at place.instant place.partition content)

-- a content lends its rows wherever it has some
abbrev pub Lends : DataPlace → List ℕ → Type 0
Lends place content = IsOk (rows_in place content)
