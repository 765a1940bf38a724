use Rattle.std.proofs.Common.{take}
use Rattle.row_columns.specs.Readers.{AreLent}
use Rattle.row_columns.proofs.rows.lend_all.Given as goal

-- the cells so far
abbrev pub invariant-loop-cell : goal.invariant-loop-cell
invariant-loop-cell l = AreLent (take l.cell-index l.cells) l.lent.items
