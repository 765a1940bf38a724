use Rattle.byte_fields.proofs.VarintLemmas.{IsVarint-varint, varint-least, varint-append}
use Rattle.byte_fields.proofs.laws.written_varints.Goals as goal

pub returns-clause-form : goal.returns-clause-form
returns-clause-form c = IsVarint-varint

pub returns-clause-shortest : goal.returns-clause-shortest
returns-clause-shortest c = λ n groups. varint-least groups n

pub returns-clause-one : goal.returns-clause-one
returns-clause-one c = varint-append
