use Rattle.std.proofs.Common.{◌≡◌, ◌++◌, take}
use Rattle.std.specs.List.{flat_map}
use Rattle.table_query.specs.GroupReading.{target_of}
use Rattle.table_query.proofs.logs.push_targets.Given as goal

abbrev pub invariant-loop-block : goal.invariant-loop-block
invariant-loop-block l = l.targets.items ≡ l.initial.targets.items ++ flat_map target_of (take l.block-index l.blocks)
