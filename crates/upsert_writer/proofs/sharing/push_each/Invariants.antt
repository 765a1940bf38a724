use Rattle.std.proofs.Common.{◌≡◌, ◌++◌, take}
use Rattle.upsert_writer.specs.TargetWrites.{writes_of_each}
use Rattle.upsert_writer.proofs.sharing.push_each.Given as goal

abbrev pub invariant-loop-target : goal.invariant-loop-target
invariant-loop-target l = l.parts.items ≡ l.initial.parts.items ++ writes_of_each (take l.target-index l.targets) l.writes
