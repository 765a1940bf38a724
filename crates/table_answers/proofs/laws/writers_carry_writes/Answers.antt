use Rattle.table_answers.proofs.Made.{writer_carries}
use Rattle.table_answers.proofs.laws.writers_carry_writes.Goals as goal

pub returns : goal.returns
returns c = writer_carries
