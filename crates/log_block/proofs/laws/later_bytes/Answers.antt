use Rattle.log_block.proofs.Blocks.{block_at_settles}
use Rattle.log_block.proofs.laws.later_bytes.Goals as goal

pub returns : goal.returns
returns c = block_at_settles
