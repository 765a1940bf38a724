-- Rows in base files: the columns, and the row for which cells stand. The five columns before a table's own are Hudi's;
-- that they have to agree with the fields and the folder is this project's own.
use Rattle.std.specs.Prelude.{ℕ, suc, ◌^◌, ℤ, pos, negsuc, nat_lt, Bool, true, ◌&&◌, if◌then◌else◌, List, [], ◌∷◌, drop, map, Option, Some, None, option_and_then, Result, Err}
use Rattle.std.specs.List.{list_all}
use Rattle.std.specs.Str.{is_utf8}
use Rattle.hudi_base.specs.InstantTime.{time_of}
use Rattle.hudi_base.specs.declared.column.Column.{Column}
use Rattle.hudi_base.specs.declared.value.Value.{Value}
use Rattle.hudi_base.specs.declared.value.Value.TheVariants as value
use Rattle.column_cells.specs.Cells.{is_cell, is_short}
use Rattle.payload_merge.specs.declared.row.Row.{Row}
use Rattle.payload_merge.specs.Contents.{CellsReading}
use Rattle.row_values.specs.declared.flat_field.CellType.{CellType}
use Rattle.row_values.specs.declared.flat_field.CellType.TheVariants.{Boolean, Int, Long, Bytes, Text}
use Rattle.row_values.specs.declared.flat_field.FlatField.{FlatField}
use Rattle.row_values.specs.declared.row_layout.RowLayout.{RowLayout}
use Rattle.row_values.specs.Fields.{is_text_cell}
use Rattle.row_values.specs.RowCells.{text_at}
use Rattle.row_records.specs.Records.{record_fields, row_in, with_agreed}

-- ---- columns

-- Parquet's physical types: boolean, numbers of 32 and of 64 bits, and byte arrays
abbrev pub physical_of : CellType → ℤ
physical_of Boolean = pos 0
physical_of Int = pos 1
physical_of Long = pos 2
physical_of Bytes = pos 6
physical_of Text = pos 6

abbrev pub column_of : FlatField → Column
column_of field = record { name = field.name; physical = physical_of field.cell; optional = field.nullable; utf8 = is_text_cell field.cell }

-- one for each field of a record, in their order
abbrev pub columns_of : RowLayout → List Column
columns_of layout = map column_of (record_fields layout.fields)

-- ---- the row that cells make

-- the place of the first cell that isn't of its column or is too long, or of the first that is missing or left over
unfoldable pub bad_cell : ℕ → List Column → List Value → Option ℕ
bad_cell place [] [] = None
bad_cell place [] (cell ∷ cells) = Some place
bad_cell place (column ∷ columns) [] = Some place
bad_cell place (column ∷ columns) (cell ∷ cells) = if is_cell column cell && is_short cell then bad_cell (suc place) columns cells else Some place

-- what any value of the program is: a number has its bits, and a text is in UTF-8
abbrev pub has_limit : ℕ → ℤ → Bool
has_limit limit (pos n) = nat_lt n limit
has_limit limit (negsuc n) = nat_lt n limit

abbrev pub is_held : Value → Bool
is_held (value.Int z) = has_limit (2 ^ 31) z
is_held (value.Long z) = has_limit (2 ^ 63) z
is_held (value.Text text) = is_utf8 text
is_held _ = true

abbrev pub with_good : Option ℕ → Result Row ℕ → Result Row ℕ
with_good (Some place) next = Err place
with_good None next = next

-- the row of a partition for which cells stand, or the place of the first bad one: in the order of the cells one that isn't
-- of its column or is too long; then the commit, the seqno, the record key, the partition, and the ordering field
unfoldable pub base_row : RowLayout → CellsReading
base_row layout partition cells =
    with_good (bad_cell 0 (columns_of layout) cells) (if list_all is_held (drop 5 cells)
    then with_agreed 0 (option_and_then time_of (text_at 0 cells)) (λ instant. row_in layout instant partition cells)
    else Err 0)
