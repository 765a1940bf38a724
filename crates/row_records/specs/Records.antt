-- The records of rows in data blocks. The five columns before a table's own are Hudi's; that they have to agree with the
-- block, the fields and the file group is this project's own.
use Rattle.std.specs.Prelude.{◌≡◌, ℕ, ℤ, ◌+◌, ◌≤◌, ◌<◌, ◌^◌, ◌==◌, nat_lt, nat_le, not, ◌&&◌, ◌||◌, Bool, true, false, if◌then◌else◌, List, [], ◌∷◌, ◌++◌, length, take, drop, map, Option, Some, None, unwrap_or, option_and_then, codes, bytes_eq, Result, Ok, Err, IsOk}
use Rattle.std.specs.List.{list_all}
use Rattle.std.specs.Result.{result_ok}
use Rattle.byteorder.specs.Endian.{big_bytes, big_number}
use Rattle.byte_fields.specs.declared.field_error.FieldError.{FieldError}
use Rattle.byte_fields.specs.Reading.{Reading, ◌>>=◌, as_item, only_if, only_some}
use Rattle.byte_fields.specs.Numbers.{number_at}
use Rattle.byte_fields.specs.Prefixed.{with_length, prefixed_at}
use Rattle.hudi_base.specs.InstantTime.{time_text}
use Rattle.hudi_base.specs.declared.value.Value.{Value, Text, Record, out-Value}
use Rattle.hudi_base.specs.declared.value.Value.TheOpen.{Value-F}
use Rattle.hudi_base.specs.declared.value.Pair.{Pair}
use Rattle.avro_schema.specs.AvroTypes.{AvroType, record_of}
use Rattle.avro_schema.specs.Reading.{fields_from}
use Rattle.avro_schema.specs.Written.{written}
use Rattle.table_forms.specs.Decimals.{decimal_of}
use Rattle.payload_merge.specs.declared.row.Row.{Row}
use Rattle.payload_merge.specs.Contents.{DataPlace, DataReading}
use Rattle.row_values.specs.declared.flat_field.CellType.TheVariants as types
use Rattle.row_values.specs.declared.flat_field.FlatField.{FlatField}
use Rattle.row_values.specs.declared.row_layout.RowLayout.{RowLayout}
use Rattle.row_values.specs.Fields.{typed_fields}
use Rattle.row_values.specs.Cells.{cell_length, record_of_cells}
use Rattle.row_values.specs.RowCells.{AreCellsOf, body_of, rank_in, seqno_text, text_at}
use Rattle.block_contents.specs.Contents.{content_at, content_bytes, with_offset}

-- ---- fields

abbrev pub text_field : List ℕ → FlatField
text_field name = record { name = name; cell = types.Text; nullable = false }

-- the fields of a record, of which five stand before the row's own
unfoldable pub record_fields : List FlatField → List FlatField
record_fields fields =
    text_field (codes "_hoodie_commit_time") ∷ text_field (codes "_hoodie_commit_seqno")
    ∷ text_field (codes "_hoodie_record_key") ∷ text_field (codes "_hoodie_partition_path")
    ∷ text_field (codes "_hoodie_file_name") ∷ fields

-- the type of a record in a block, whose text is the block's schema
abbrev pub record_type : RowLayout → AvroType
record_type layout = record_of layout.record_name (typed_fields (record_fields layout.fields))

-- ---- cells

-- the cell of a field's value: what a union holds, or the value itself
abbrev pub held_or : Value → Value-F Value Pair → Value
held_or v (Value-F.Union index held) = held
held_or v _ = v

abbrev pub cell_in : Value → Value
cell_in v = held_or v (out-Value v)

-- the five cells before a row's own, in the file group with this file id
abbrev pub meta_cells : List ℕ → Row → List Value
meta_cells file_id row =
    Text (time_text row.commit) ∷ Text (seqno_text row.commit row.seq) ∷ Text row.key ∷ Text row.partition
    ∷ Text file_id ∷ []

abbrev pub is_short_cell : Value → Bool
is_short_cell cell = nat_le (cell_length cell) 65536

-- The cells are those of the record of a row that was written into a file group.
pub record IsRecordOf (layout : RowLayout) (place : DataPlace) (row : Row) (cells : List Value) : Type 0 where
  pub own : List Value
  pub own_are : AreCellsOf layout row own
  pub cells_are : cells ≡ meta_cells place.file_id row ++ own
  pub commit : row.commit ≡ place.instant
  pub partition : row.partition ≡ place.partition
  pub seq : row.seq < 2 ^ 32
  pub short_id : length place.file_id ≤ 65536

-- ---- the row that cells make

-- what follows from a cell that agrees, or else its place
abbrev pub with_agreed : {A B : Type 0} → ℕ → Option A → (A → Result B ℕ) → Result B ℕ
with_agreed place (Some x) next = next x
with_agreed place None next = Err place

-- what stands behind a beginning
abbrev pub behind : List ℕ → List ℕ → Option (List ℕ)
behind start text = if bytes_eq (take (length start) text) start then Some (drop (length start) text) else None

abbrev pub of_32_bits : ℕ → Option ℕ
of_32_bits n = if nat_lt n (2 ^ 32) then Some n else None

-- the place in its batch that the seqno of an instant tells
unfoldable pub seq_in : ℕ → List ℕ → Option ℕ
seq_in instant text =
    option_and_then of_32_bits (option_and_then decimal_of (option_and_then (behind (codes "_0_")) (behind (time_text instant) text)))

-- the text, if it is this one
abbrev pub only_text : List ℕ → List ℕ → Option (List ℕ)
only_text wanted text = if bytes_eq text wanted then Some text else None

-- the text, if both are there and one text
abbrev pub one_text : Option (List ℕ) → Option (List ℕ) → Option (List ℕ)
one_text (Some one) other = option_and_then (only_text one) other
one_text None other = None

-- the row of an instant and a partition, where this was told of it, with these cells of its own
abbrev pub row_of_cells : RowLayout → ℕ → List ℕ → List Value → ℕ → List ℕ → ℤ → Row
row_of_cells layout instant partition own seq key rank = record {
  partition = partition;
  key = key;
  rank = rank;
  commit = instant;
  seq = seq;
  body = body_of layout own;
}

-- The row of an instant and a partition that the cells of a record make, or the place of the first cell that disagrees:
-- the seqno, the record key, the partition, and the ordering field, which may not be null.
unfoldable pub row_in : RowLayout → ℕ → List ℕ → List Value → Result Row ℕ
row_in layout instant partition cells =
    with_agreed 1 (option_and_then (seq_in instant) (text_at 1 cells)) (λ seq.
    with_agreed 2 (one_text (text_at 2 cells) (text_at layout.key (drop 5 cells))) (λ key.
    with_agreed 3 (option_and_then (only_text partition) (one_text (text_at 3 cells) (text_at layout.partition (drop 5 cells)))) (λ path.
    with_agreed (5 + unwrap_or layout.ordering 0) (rank_in layout.ordering (drop 5 cells)) (λ rank.
    Ok (row_of_cells layout instant partition (drop 5 cells) seq key rank)))))

-- a cell is this text
abbrev pub is_text : List ℕ → Option (List ℕ) → Bool
is_text wanted (Some text) = bytes_eq text wanted
is_text wanted None = false

-- the row for which the cells of a record stand that was found at a place
unfoldable pub row_at : RowLayout → DataPlace → List Value → Option Row
row_at layout place cells =
    if list_all is_short_cell cells && is_text (time_text place.instant) (text_at 0 cells)
    && is_text place.file_id (text_at 4 cells)
    then result_ok (row_in layout place.instant place.partition cells) else None

-- ---- written

-- the record behind its length: the five texts, and the body, which is the written form of the others
abbrev pub record_bytes : List ℕ → Row → List ℕ
record_bytes file_id row = written (Record (meta_cells file_id row)) ++ row.body

abbrev pub row_bytes : List ℕ → Row → List ℕ
row_bytes file_id row = with_length (big_bytes 4) (record_bytes file_id row)

abbrev pub rows_bytes : List ℕ → List Row → List ℕ
rows_bytes file_id rows = content_bytes (row_bytes file_id) rows

-- ---- read

-- the cells of a record with these fields, behind which nothing stands
unfoldable pub cells_at : List FlatField → List ℕ → Result (List Value) FieldError
cells_at fields bytes = do
  values ← fields_from (typed_fields fields) [] 1000000 bytes
  only_if (length values.1 == 0) values.1 (map cell_in values.0.0)

-- the row of a record or, where `written_only` says so, of one in its written form alone
unfoldable pub record_in : Bool → RowLayout → DataPlace → List ℕ → Result Row FieldError
record_in written_only layout place bytes = do
  cells ← cells_at (record_fields layout.fields) bytes
  row ← only_some (row_at layout place cells) bytes
  only_if (not written_only || bytes_eq bytes (written (record_of_cells (record_fields layout.fields) cells))) bytes row

unfoldable pub record_at : Bool → RowLayout → DataPlace → List ℕ → Reading Row
record_at written_only layout place bytes = as_item bytes (do
  content ← prefixed_at (number_at big_number 4) bytes
  row ← record_in written_only layout place content.0
  Ok (row, content.1))

-- the rows of a content at its place, or the offset at which it has no reading
abbrev pub rows_in : RowLayout → DataReading
rows_in layout place content = with_offset (length content) (content_at (record_at false layout place) content)

-- each record of a content that is read is in its written form
abbrev pub CanBeLent : RowLayout → DataPlace → List ℕ → Type 0
CanBeLent layout place content = IsOk (content_at (record_at true layout place) content)
