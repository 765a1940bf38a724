use Rattle.std.proofs.Common.{◌≡◌, ◌≤◌, drop}
use Rattle.key_index.specs.TileRuns.{least_mistiled}
use Rattle.key_index.proofs.group_lists.least_mistiled.Given as goal

abbrev pub invariant-loop-group : goal.invariant-loop-group
invariant-loop-group l = (least_mistiled 0 l.groups ≡ least_mistiled l.next (drop l.group-index l.groups)) × (l.next ≤ 65_536)
