use Rattle.std.proofs.Common.{◌≡◌, ◌++◌, take}
use Rattle.row_values.specs.Cells.{cells_view}
use Rattle.row_columns.proofs.cells.push_all.Given as goal

-- the cells so far
abbrev pub invariant-loop-cell : goal.invariant-loop-cell
invariant-loop-cell l = l.out ≡ l.fn.out ++ cells_view (take l.cell-index l.cells)
