use Rattle.std.proofs.Common.{◌≡◌, length}
use Rattle.payload_merge.specs.Fold.{writes_from}
use Rattle.upsert_writer.proofs.writes.writes_at.Given as goal

abbrev pub invariant-loop-write : goal.invariant-loop-write
invariant-loop-write l = record {
  placed : l.placed.items ≡ writes_from l.t 0 l.yielded;
  seq : l.seq ≡ length l.yielded;
}
