use Rattle.log_block.proofs.Blocks.{block_bytes-append}
use Rattle.log_block.proofs.laws.one_form.Goals as goal

pub returns : goal.returns
returns c = block_bytes-append
