-- What is said of cells on the way; for private clauses.
use Rattle.std.specs.Prelude.{◌≡◌, ℕ, Bool, true, false, ◌&&◌, List, ◌++◌, map, Option, Some, None, option_and_then, Result}
use Rattle.std.specs.List.{AllZip, list_all}
use Rattle.hudi_base.specs.InstantTime.{time_of}
use Rattle.hudi_base.specs.declared.column.Column.{Column}
use Rattle.hudi_base.specs.declared.value.Value.{Value, Null, Boolean, Int, Long, Bytes, Text}
use Rattle.hudi_base.specs.declared.value.Value.TheVariants as value
use Rattle.column_cells.specs.Cells.{is_cell, is_short}
use Rattle.payload_merge.specs.declared.row.Row.{Row}
use Rattle.row_values.specs.declared.row_layout.RowLayout.{RowLayout}
use Rattle.row_values.specs.Cells.{cells_view}
use Rattle.row_values.specs.declared.cell_ref.CellRef.{CellRef}
use Rattle.row_values.specs.RowCells.{AreCellsOf, text_at}
use Rattle.row_columns.specs.Base.{is_held}
use Rattle.row_records.specs.Records.{meta_cells, row_in, with_agreed}
use Rattle.row_records.specs.Readers.{HasSeqno}

-- a cell that is there, of the column and not too long
abbrev pub is_good : Column → Option Value → Bool
is_good column (Some cell) = is_cell column cell && is_short cell
is_good column None = false

abbrev pub AreGood : List Column → List Value → Type 0
AreGood columns cells = AllZip (λ column cell. (is_cell column cell ≡ true) × (is_short cell ≡ true)) columns cells

-- a value of a flat schema, or null in the place of another
abbrev pub plain_of : Value → Value
plain_of (value.Boolean truth) = Boolean truth
plain_of (value.Int z) = Int z
plain_of (value.Long z) = Long z
plain_of (value.Bytes content) = Bytes content
plain_of (value.Text text) = Text text
plain_of _ = Null

-- cells that were lent of others
pub record AreLent (cells : List Value) (lent : List CellRef) : Type 0 where
  pub plain : cells_view lent ≡ map plain_of cells
  pub held : list_all is_held cells ≡ true

-- the row that cells of a base file make, which are all of their columns
abbrev pub timed_row : RowLayout → List ℕ → List Value → Result Row ℕ
timed_row layout partition cells = with_agreed 0 (option_and_then time_of (text_at 0 cells)) (λ instant. row_in layout instant partition cells)

-- the cells of a row in a base file
pub record HasBaseCells (layout : RowLayout) (row : Row) (file_id : List ℕ) (cells : List Value) : Type 0 where
  pub own : List Value
  pub own_are : AreCellsOf layout row own
  pub cells_are : cells ≡ meta_cells file_id row ++ own
  pub known : HasSeqno row.commit row.seq
