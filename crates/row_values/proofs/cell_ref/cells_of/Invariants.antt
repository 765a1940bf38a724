use Rattle.row_values.specs.Cells.{cells_view}
use Rattle.row_values.proofs.CellLemmas.{CellsSoFar}
use Rattle.row_values.proofs.cell_ref.cells_of.Given as goal

-- the cells so far
abbrev pub invariant-loop-i : goal.invariant-loop-i
invariant-loop-i l = CellsSoFar l.fields l.values l.i (cells_view l.cells.items)
