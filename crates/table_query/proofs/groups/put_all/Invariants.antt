use Rattle.std.proofs.Common.{◌≡◌, map}
use Rattle.payload_merge.specs.Fold.{table_after_all}
use Rattle.payload_merge.specs.declared.row.Write.TheVariants.{Put}
use Rattle.table_query.proofs.groups.put_all.Given as goal

abbrev pub invariant-loop-row : goal.invariant-loop-row
invariant-loop-row l = l.rows ≡ table_after_all l.initial.rows (map Put l.yielded)
