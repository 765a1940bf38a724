use Rattle.std.proofs.Common.{◌≡◌}
use Rattle.payload_merge.specs.Fold.{table_after_all}
use Rattle.table_query.proofs.folding.fold_all.Given as goal

abbrev pub invariant-loop-write : goal.invariant-loop-write
invariant-loop-write l = l.rows ≡ table_after_all l.initial.rows l.yielded
