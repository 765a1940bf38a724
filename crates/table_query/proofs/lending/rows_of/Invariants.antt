use Rattle.std.proofs.Common.{◌≡◌, map, take}
use Rattle.payload_merge.specs.RowRefs.{row_in}
use Rattle.table_query.proofs.lending.rows_of.Given as goal

abbrev pub invariant-loop-row : goal.invariant-loop-row
invariant-loop-row l = l.owned ≡ map (row_in l.partition) (take l.row-index l.rows)
