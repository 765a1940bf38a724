use Rattle.table_answers.proofs.Made.{next_turn}
use Rattle.table_answers.proofs.laws.turns_go_on.Goals as goal

pub returns : goal.returns
returns c = record { first = tt; next = next_turn }
