use Rattle.std.proofs.Common.{◌≡◌, take}
use Rattle.hudi_base.specs.declared.file_group.GroupRef.{GroupRef}
use Rattle.key_index.specs.Tiling.{is_among}
use Rattle.key_index.proofs.group_lists.set_of.Given as goal

abbrev pub invariant-loop-group : goal.invariant-loop-group
invariant-loop-group l = (other : GroupRef) → is_among l.set.keys other ≡ is_among (take l.group-index l.groups) other
