use Rattle.std.proofs.Common.{◌≡◌, ◌≤◌, ◌<◌, ◌+◌, ◌-◌, ℕ, suc, length}
use Rattle.base_cells.specs.Cells.{pages_at}
use Rattle.base_cells.specs.Binding.{behind}
use Rattle.base_cells.proofs.pages.pages_at.Given as goal

abbrev pub invariant-loop-left : goal.invariant-loop-left
invariant-loop-left l =
    (l.at ≤ length l.bytes) × (length l.cells + l.left ≡ l.count)
    × ((steps : ℕ) × (length l.bytes < l.at + steps)
    × (pages_at (suc (length l.bytes)) l.column l.count l.start l.bytes ≡ behind l.cells (pages_at steps l.column l.left l.at l.bytes)))

abbrev pub decreases-loop-left : goal.decreases-loop-left
decreases-loop-left l = l.left + (length l.bytes - l.at)
