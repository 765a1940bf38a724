use Rattle.avro_value.proofs.Types.{finds_type, reads_type}
use Rattle.avro_value.proofs.laws.readings_are_read.Goals as goal

pub returns-clause-found : goal.returns-clause-found
returns-clause-found c = λ type left m bytes rest v e. let t = finds_type type left bytes v m rest e in (t.prefix, t.parts, t.reading, t.spent)

pub returns-clause-again : goal.returns-clause-again
returns-clause-again c = λ type left prefix rest v is fits. reads_type type left v prefix rest is fits
