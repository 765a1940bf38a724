use Rattle.std.proofs.Common.{◌≡◌, map, take}
use Rattle.payload_merge.specs.RowRefs.{write_in}
use Rattle.plain_rows.proofs.owned.owned.Given as goal

-- the writes so far
abbrev pub invariant-loop-write : goal.invariant-loop-write
invariant-loop-write l = l.own ≡ map (write_in l.partition) (take l.write-index l.writes)
