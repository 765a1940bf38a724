use Rattle.std.proofs.Common.{◌≡◌, ◌++◌}
use Rattle.table_query.proofs.lending.add_all.Given as goal

abbrev pub invariant-loop-write : goal.invariant-loop-write
invariant-loop-write l = l.writes.items ≡ l.initial.writes.items ++ l.yielded
