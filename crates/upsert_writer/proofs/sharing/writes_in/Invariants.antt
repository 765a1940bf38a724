use Rattle.std.proofs.Common.{◌≡◌, filter}
use Rattle.upsert_writer.specs.BatchWrites.{is_in_group}
use Rattle.upsert_writer.proofs.sharing.writes_in.Given as goal

abbrev pub invariant-loop-write : goal.invariant-loop-write
invariant-loop-write l = l.own.items ≡ filter (is_in_group l.group) l.yielded
