use Rattle.std.proofs.Common.{◌≡◌, ◌+◌, pos, take, sum_by}
use Rattle.base_cells.specs.Columns.{rows_of}
use Rattle.base_cells.proofs.columns.have_rows.Given as goal

abbrev pub invariant-loop-group : goal.invariant-loop-group
invariant-loop-group l = l.rows ≡ pos (sum_by rows_of (take l.group-index l.groups) + l.left)
