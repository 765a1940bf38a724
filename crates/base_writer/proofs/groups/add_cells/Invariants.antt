use Rattle.std.proofs.Common.{◌≡◌, ◌++◌, length, take, drop}
use Rattle.base_writer.specs.GroupParts.{parts_with}
use Rattle.base_writer.proofs.groups.add_cells.Given as goal

abbrev pub invariant-loop-i : goal.invariant-loop-i
invariant-loop-i l =
    (length l.pages.items ≡ length l.fn.pages.items)
    × (l.pages.items ≡ take l.i (parts_with l.columns l.cells l.fn.pages.items) ++ drop l.i l.fn.pages.items)
