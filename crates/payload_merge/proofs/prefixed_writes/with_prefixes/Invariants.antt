use Rattle.std.proofs.Common.{take}
use Rattle.payload_merge.specs.KeyOrder.{ArePrefixed}
use Rattle.payload_merge.proofs.prefixed_writes.with_prefixes.Given as goal

-- the writes so far
abbrev pub invariant-loop-write : goal.invariant-loop-write
invariant-loop-write l = ArePrefixed (take l.write-index l.writes) l.prefixed.items
