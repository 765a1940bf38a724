use Rattle.std.proofs.Common.{length}
use Rattle.base_cells.proofs.columns.+are_chunks.Given as goal

abbrev pub decreases-are_chunks : goal.decreases-are_chunks
decreases-are_chunks l = length l.columns.now
