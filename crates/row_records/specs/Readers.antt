-- What readers give; for private clauses.
use Rattle.std.specs.Prelude.{◌≡◌, ℕ, ◌<◌, ◌≤◌, ◌^◌, Bool, List, length, drop, Option, Some, None, Result, Ok, Err, IsUtf8}
use Rattle.std.specs.Prelude.{Vec, []}
use Rattle.std.specs.Borrow.{Bor}
use Rattle.std.specs.declared.alloc.Global.{Global}
use Rattle.byteorder.specs.Endian.{big_number}
use Rattle.byte_fields.specs.Reading.{Reading, ◌>>=◌}
use Rattle.byte_fields.specs.Numbers.{number_at}
use Rattle.byte_fields.specs.Prefixed.{prefixed_at}
use Rattle.avro_schema.specs.Reading.{fields_from}
use Rattle.avro_schema.specs.Written.{written}
use Rattle.hudi_base.specs.InstantTime.{IsTime, time_text}
use Rattle.hudi_base.specs.declared.value.Value.{Value}
use Rattle.payload_merge.specs.declared.row.Row.{Row}
use Rattle.payload_merge.specs.declared.row.Write.{Write}
use Rattle.payload_merge.specs.declared.row.Write.TheVariants.{Put}
use Rattle.payload_merge.specs.Contents.{DataPlace}
use Rattle.row_values.specs.declared.row_layout.RowLayout.{RowLayout}
use Rattle.row_values.specs.declared.flat_field.FlatField.{FlatField}
use Rattle.row_values.specs.declared.cell_ref.CellRef.{CellRef}
use Rattle.row_values.specs.Fields.{typed_fields}
use Rattle.row_values.specs.Cells.{AreCells, cells_view, record_of_cells, record_values}
use Rattle.row_values.specs.RowCells.{body_of, seqno_text}
use Rattle.block_contents.specs.declared.read_error.ReadError.{ReadError}
use Rattle.block_contents.specs.Readers.{Fails}
use Rattle.row_records.specs.declared.place.Place.{Place}
use Rattle.row_records.specs.declared.head.RowHead.{RowHead}
use Rattle.row_records.specs.declared.reading.FoundRow.{FoundRow}
use Rattle.row_records.specs.Records.{cells_at, record_at, record_bytes, record_fields, record_in, row_at, row_in, row_of_cells}

abbrev pub place_of : Place → DataPlace
place_of place = record { instant = place.t; partition = place.partition.now; file_id = place.file_id.now }

-- the row that a head tells of cells
abbrev pub head_row : RowLayout → ℕ → List ℕ → List Value → RowHead → Row
head_row layout instant partition cells head =
    row_of_cells layout instant partition (drop 5 cells) head.seq head.key.now head.rank

-- The head is that of the row that the cells make, or the place is that of the first cell that disagrees.
abbrev pub ReadsHead : RowLayout → ℕ → List ℕ → List Value → Result RowHead ℕ → Type 0
ReadsHead layout instant partition cells (Ok head) =
    row_in layout instant partition cells ≡ Ok (head_row layout instant partition cells head)
ReadsHead layout instant partition cells (Err place) = row_in layout instant partition cells ≡ Err place

-- the same of a record of a place
abbrev pub FindsHead : RowLayout → DataPlace → List Value → Option RowHead → Type 0
FindsHead layout place cells (Some head) =
    row_at layout place cells ≡ Some (head_row layout place.instant place.partition cells head)
FindsHead layout place cells None = row_at layout place cells ≡ None

-- cells with these fields were read
abbrev pub ReadsCells : List FlatField → List ℕ → Result (Vec CellRef Global) ReadError → Type 0
ReadsCells fields bytes (Ok cells) = AreCells fields (cells_view cells.items) × (cells_at fields bytes ≡ Ok (cells_view cells.items))
ReadsCells fields bytes (Err error) = Fails error (cells_at fields bytes)

-- a record was read, with its cells
pub record HasFound (layout : RowLayout) (place : DataPlace) (bytes : List ℕ) (found : FoundRow) : Type 0 where
  pub fit : AreCells (record_fields layout.fields) (cells_view found.cells.items)
  pub cells : cells_at (record_fields layout.fields) bytes ≡ Ok (cells_view found.cells.items)
  pub row : row_at layout place (cells_view found.cells.items) ≡ Some (head_row layout place.instant place.partition (cells_view found.cells.items) found.head)

abbrev pub Finds : RowLayout → DataPlace → List ℕ → Result FoundRow ReadError → Type 0
Finds layout place bytes (Ok found) = HasFound layout place bytes found
Finds layout place bytes (Err error) = (written_only : Bool) → Fails error (record_in written_only layout place bytes)

-- a record behind its length
abbrev pub row_behind_length : Bool → RowLayout → DataPlace → List ℕ → Reading Row
row_behind_length written_only layout place bytes =
    prefixed_at (number_at big_number 4) bytes >>= λ content. record_in written_only layout place content.0 >>= λ row. Ok (row, content.1)

-- ---- puts

abbrev pub put_behind_length : Bool → RowLayout → DataPlace → List ℕ → Reading Write
put_behind_length written_only layout place bytes =
    prefixed_at (number_at big_number 4) bytes >>= λ content. record_in written_only layout place content.0 >>= λ row. Ok (Put row, content.1)

-- the put of a record
abbrev pub put_at : Bool → RowLayout → DataPlace → List ℕ → Reading Write
put_at written_only layout place bytes = record_at written_only layout place bytes >>= λ found. Ok (Put found.0, found.1)

-- cells that were read before the bytes that are left
abbrev pub ReadsThem : List FlatField → List ℕ → Result (Vec CellRef Global × Bor (List ℕ)) ReadError → Type 0
ReadsThem fields bytes (Ok x) =
    AreCells fields (cells_view x.0.items) × (fields_from (typed_fields fields) [] 1000000 bytes ≡ Ok ((record_values fields (cells_view x.0.items), 1000000), x.1.now))
ReadsThem fields bytes (Err error) = Fails error (fields_from (typed_fields fields) [] 1000000 bytes)

-- the record of cells was written, and the row's own begin at an offset
pub record WritesRecord (layout : RowLayout) (cells : List Value) (bytes : List ℕ) (start : ℕ) : Type 0 where
  pub whole : bytes ≡ written (record_of_cells (record_fields layout.fields) cells)
  pub within : start ≤ length bytes
  pub body : drop start bytes ≡ body_of layout (drop 5 cells)

-- what is known of the text of a place in a batch
pub record HasSeqno (commit seq : ℕ) : Type 0 where
  pub drawn : IsTime commit
  pub time : IsUtf8 (time_text commit)
  pub text : IsUtf8 (seqno_text commit seq)
  pub fits : seq < 2 ^ 32

-- what is known of each row that was written into a file group
pub record IsWritten (file_id : List ℕ) (row : Row) : Type 0 where
  pub seqno : HasSeqno row.commit row.seq
  pub file : IsUtf8 file_id
  pub short : length (record_bytes file_id row) < 2 ^ 32
