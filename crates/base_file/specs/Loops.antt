-- What the loops of this crate come to; for private clauses.
use Rattle.std.specs.Prelude.{ℕ, List, Option, Result, Ok}
use Rattle.std.specs.Option.{option_and_then}
use Rattle.hudi_base.specs.declared.value.Value.{Value}
use Rattle.payload_merge.specs.declared.row.Row.{Row}
use Rattle.payload_merge.specs.Contents.{CellsReading}
use Rattle.hudi_base.specs.declared.column.Column.{Column}
use Rattle.parquet_meta.specs.declared.row_group.RowGroup.{RowGroup}
use Rattle.base_cells.specs.declared.base_error.BaseError.{BaseError}
use Rattle.base_cells.specs.Binding.{◌>>=◌}
use Rattle.base_cells.specs.Cells.{groups_at}
use Rattle.base_file.specs.BaseFiles.{rows_behind, rows_of_cells}

-- rows that may not be there, and behind them the rows for which cells stand
abbrev pub then_rows : CellsReading → List ℕ → Option (List Row) → List (List Value) → Option (List Row)
then_rows reading partition before cells =
    option_and_then (λ rows. rows_behind rows (rows_of_cells reading partition cells)) before

-- rows that may not be there, and behind them those of row groups
abbrev pub rows_of_groups : List Column → CellsReading → List ℕ → List ℕ → Option (List Row) → List RowGroup → Result (Option (List Row)) BaseError
rows_of_groups columns reading partition bytes before groups =
    groups_at columns bytes groups >>= λ cells. Ok (then_rows reading partition before cells)
