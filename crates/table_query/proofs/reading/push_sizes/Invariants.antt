use Rattle.std.proofs.Common.{◌≡◌, ◌++◌, take, map}
use Rattle.table_query.proofs.reading.push_sizes.Given as goal

abbrev pub invariant-loop-part : goal.invariant-loop-part
invariant-loop-part l = l.sizes.items ≡ l.initial.sizes.items ++ map (λ part. part.length) (take l.part-index l.parts)
