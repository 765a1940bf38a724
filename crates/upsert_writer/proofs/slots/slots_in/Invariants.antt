use Rattle.std.proofs.Common.{◌≡◌, take, map}
use Rattle.upsert_writer.specs.BatchWrites.{slot_in}
use Rattle.upsert_writer.proofs.slots.slots_in.Given as goal

abbrev pub invariant-loop-write : goal.invariant-loop-write
invariant-loop-write l = l.slots ≡ map slot_in (take l.write-index l.writes)
