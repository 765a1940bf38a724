use Rattle.log_block.proofs.Blocks.{block_at-torn, torn_only, block_at-no_memory}
use Rattle.log_block.proofs.laws.when_torn.Goals as goal

pub returns-clause-torn : goal.returns-clause-torn
returns-clause-torn c = λ bytes. (torn_only bytes, block_at-torn bytes)

pub returns-clause-memory : goal.returns-clause-memory
returns-clause-memory c = block_at-no_memory
