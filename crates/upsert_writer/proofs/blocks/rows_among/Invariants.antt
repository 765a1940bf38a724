use Rattle.std.proofs.Common.{◌≡◌}
use Rattle.upsert_writer.specs.TargetWrites.{rows_among}
use Rattle.upsert_writer.proofs.blocks.rows_among.Given as goal

abbrev pub invariant-loop-write : goal.invariant-loop-write
invariant-loop-write l = l.rows.items ≡ rows_among l.yielded
