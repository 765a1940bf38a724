use Rattle.std.proofs.Common.{◌≡◌, ◌++◌, filter, take}
use Rattle.key_index.specs.Tiling.{has_slots}
use Rattle.key_index.proofs.group_lists.push_with_slots.Given as goal

abbrev pub invariant-loop-group : goal.invariant-loop-group
invariant-loop-group l = l.out.items ≡ l.initial.out.items ++ filter has_slots (take l.group-index l.groups)
