use Rattle.std.proofs.Common.{◌≡◌, take, map}
use Rattle.std.specs.List.{flat_map}
use Rattle.table_query.proofs.reading.sizes_of.Given as goal

abbrev pub invariant-loop-group : goal.invariant-loop-group
invariant-loop-group l = l.sizes.items ≡ map (λ part. part.length) (flat_map (λ g. g.parts) (take l.group-index l.groups))
