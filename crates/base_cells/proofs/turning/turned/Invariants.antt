use Rattle.std.proofs.Common.{◌≡◌, ◌≤◌, ◌-◌, map, take, reverse}
use Rattle.std.specs.List.{range_with_len}
use Rattle.base_cells.specs.Turned.{cells_at}
use Rattle.base_cells.proofs.turning.turned.Given as goal

abbrev pub invariant-loop-left : goal.invariant-loop-left
invariant-loop-left l =
    (l.left ≤ l.n) × (l.lists.items ≡ map (take l.left) l.initial.lists.items)
    × (l.backwards.items ≡ reverse (map (cells_at l.initial.lists.items) (range_with_len l.left (l.n - l.left))))

abbrev pub decreases-loop-left : goal.decreases-loop-left
decreases-loop-left l = l.left
