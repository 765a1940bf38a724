use Rattle.std.proofs.Common.{◌≡◌, ◌++◌, take}
use Rattle.file_groups.proofs.views.push_groups.Given as goal

abbrev pub invariant-loop-group : goal.invariant-loop-group
invariant-loop-group l = l.all.items ≡ l.initial.all.items ++ take l.group-index l.groups
