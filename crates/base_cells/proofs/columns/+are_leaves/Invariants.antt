use Rattle.std.proofs.Common.{length}
use Rattle.base_cells.proofs.columns.+are_leaves.Given as goal

abbrev pub decreases-are_leaves : goal.decreases-are_leaves
decreases-are_leaves l = length l.columns.now
