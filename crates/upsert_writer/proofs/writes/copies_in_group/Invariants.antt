use Rattle.std.proofs.Common.{◌≡◌, take, filter}
use Rattle.upsert_writer.specs.BatchWrites.{is_in_group}
use Rattle.upsert_writer.proofs.writes.copies_in_group.Given as goal

abbrev pub invariant-loop-write : goal.invariant-loop-write
invariant-loop-write l = l.copies.items ≡ filter (is_in_group l.group) (take l.write-index l.writes)
