use Rattle.std.proofs.Common.{length}
use Rattle.base_writer.proofs.groups.+put_chunks.Given as goal

abbrev pub decreases-put_chunks : goal.decreases-put_chunks
decreases-put_chunks l = length l.columns.now
