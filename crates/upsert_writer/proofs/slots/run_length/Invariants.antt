use Rattle.std.proofs.Common.{◌≡◌, take, map}
use Rattle.upsert_writer.specs.BatchWrites.{partition_of}
use Rattle.upsert_writer.proofs.slots.run_length.Given as goal

abbrev pub invariant-loop-i : goal.invariant-loop-i
invariant-loop-i l = map partition_of (take l.i l.writes) ≡ map (λ w. l.partition) (take l.i l.writes)
