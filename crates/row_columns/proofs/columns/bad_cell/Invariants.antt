use Rattle.std.proofs.Common.{◌≡◌, drop}
use Rattle.row_columns.specs.Base.{bad_cell}
use Rattle.row_columns.proofs.columns.bad_cell.Given as goal

-- no cell so far is bad
abbrev pub invariant-loop-place : goal.invariant-loop-place
invariant-loop-place l = bad_cell l.place (drop l.place l.columns) (drop l.place l.cells) ≡ bad_cell 0 l.columns l.cells
