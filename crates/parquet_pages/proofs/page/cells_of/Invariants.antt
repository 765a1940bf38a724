use Rattle.std.proofs.Common.{◌≡◌, take}
use Rattle.parquet_pages.specs.Parts.{parts_of}
use Rattle.parquet_pages.proofs.page.cells_of.Given as goal

abbrev pub invariant-loop-cell : goal.invariant-loop-cell
invariant-loop-cell l = l.parts ≡ parts_of l.column (take l.cell-index l.cells)
