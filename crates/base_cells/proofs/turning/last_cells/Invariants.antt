use Rattle.std.proofs.Common.{◌≡◌, ◌++◌, map, take, drop}
use Rattle.base_cells.specs.Turned.{cells_at}
use Rattle.base_cells.proofs.turning.last_cells.Given as goal

abbrev pub invariant-loop-list : goal.invariant-loop-list
invariant-loop-list l =
    (l.list-items ≡ map (take l.last) (take l.list-index l.fn.lists.items) ++ drop l.list-index l.fn.lists.items)
    × (l.cells.items ≡ cells_at (take l.list-index l.fn.lists.items) l.last)
