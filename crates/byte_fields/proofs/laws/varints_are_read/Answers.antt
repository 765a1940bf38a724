use Rattle.byte_fields.proofs.VarintLemmas.{varint_at_again, varint_at_found}
use Rattle.byte_fields.proofs.laws.varints_are_read.Goals as goal

pub returns-clause-found : goal.returns-clause-found
returns-clause-found c = varint_at_found

pub returns-clause-again : goal.returns-clause-again
returns-clause-again c = λ w n groups rest. varint_at_again w groups rest n
