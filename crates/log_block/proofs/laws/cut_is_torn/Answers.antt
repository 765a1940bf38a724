use Rattle.log_block.proofs.Blocks.{block_at-take}
use Rattle.log_block.proofs.laws.cut_is_torn.Goals as goal

pub returns : goal.returns
returns c = block_at-take
