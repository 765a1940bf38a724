use Rattle.std.proofs.Common.{◌≡◌, filter}
use Rattle.upsert_writer.specs.TargetWrites.{lies_before, lies_behind}
use Rattle.upsert_writer.proofs.sharing.split.Given as goal

abbrev pub invariant-loop-write : goal.invariant-loop-write
invariant-loop-write l = record {
  before : l.before.items ≡ filter (lies_before l.group) l.yielded;
  behind : l.behind.items ≡ filter (lies_behind l.group) l.yielded;
}
