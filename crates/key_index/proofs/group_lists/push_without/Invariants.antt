use Rattle.std.proofs.Common.{◌≡◌, ◌++◌, take}
use Rattle.key_index.specs.Tiling.{without}
use Rattle.key_index.proofs.group_lists.push_without.Given as goal

abbrev pub invariant-loop-group : goal.invariant-loop-group
invariant-loop-group l = l.out.items ≡ l.initial.out.items ++ without l.old (take l.group-index l.groups)
