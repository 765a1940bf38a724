use Rattle.std.proofs.Common.{◌≡◌, ◌-◌, true, replicate}
use Rattle.parquet_pages.specs.Plain.{cells_at}
use Rattle.parquet_pages.proofs.CellsLemmas.{with_cells}
use Rattle.parquet_pages.proofs.plain.full_cells_at.Given as goal

abbrev pub invariant-loop-cell : goal.invariant-loop-cell
invariant-loop-cell l =
    with_cells l.column l.cells (replicate (l.count - l._cell) true) l.rest ≡ cells_at l.column (replicate l.count true) l.bytes
