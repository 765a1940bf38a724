use Rattle.table_answers.proofs.Made.{query_carries}
use Rattle.table_answers.proofs.laws.queries_carry_writes.Goals as goal

pub returns : goal.returns
returns c = query_carries
