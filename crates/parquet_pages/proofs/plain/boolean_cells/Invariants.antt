use Rattle.std.proofs.Common.{◌≡◌, ◌++◌, drop}
use Rattle.parquet_pages.specs.Plain.{boolean_cells}
use Rattle.parquet_pages.proofs.plain.boolean_cells.Given as goal

abbrev pub invariant-loop-level : goal.invariant-loop-level
invariant-loop-level l =
    l.cells ++ boolean_cells (drop l.level-index l.levels) l.left ≡ boolean_cells l.levels l.bits
