use Rattle.std.proofs.Common.{◌≡◌, ◌++◌, map}
use Rattle.payload_merge.proofs.RowsByKey.{row_of_entry}
use Rattle.payload_merge.proofs.rows_by_key.into_rows.Given as goal

-- the rows so far and those of the entries that are left are those of all
abbrev pub invariant-loop-partition : goal.invariant-loop-partition
invariant-loop-partition l = l.rows ++ map row_of_entry l.partition-iterator ≡ map row_of_entry l.fn.by_key.entries
