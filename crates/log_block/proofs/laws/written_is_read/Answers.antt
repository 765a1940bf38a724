use Rattle.log_block.proofs.Blocks.{block_at_again}
use Rattle.log_block.proofs.laws.written_is_read.Goals as goal

pub returns : goal.returns
returns c = block_at_again
