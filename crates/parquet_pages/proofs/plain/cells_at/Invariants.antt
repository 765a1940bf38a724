use Rattle.std.proofs.Common.{◌≡◌, drop}
use Rattle.parquet_pages.specs.Plain.{cells_at}
use Rattle.parquet_pages.proofs.CellsLemmas.{with_cells}
use Rattle.parquet_pages.proofs.plain.cells_at.Given as goal

abbrev pub invariant-loop-level : goal.invariant-loop-level
invariant-loop-level l =
    with_cells l.column l.cells (drop l.level-index l.levels) l.rest ≡ cells_at l.column l.levels l.bytes
