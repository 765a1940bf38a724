use Rattle.avro_value.proofs.Within.{error_within}
use Rattle.avro_value.proofs.laws.refusals_stand_within.Goals as goal

pub returns : goal.returns
returns c = error_within
