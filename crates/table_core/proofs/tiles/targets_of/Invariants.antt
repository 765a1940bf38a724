use Rattle.std.proofs.Common.{◌≡◌, ◌++◌, map}
use Rattle.table_history.specs.Targets.{target_of_group}
use Rattle.table_core.proofs.tiles.targets_of.Given as goal

abbrev pub invariant-loop-group : goal.invariant-loop-group
invariant-loop-group l = l.targets ++ map target_of_group l.group-iterator ≡ map target_of_group l.groups.keys
