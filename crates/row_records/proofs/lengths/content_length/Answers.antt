use Rattle.std.proofs.Common.{arith}
use Rattle.row_records.proofs.LengthLemmas.{content_form}
use Rattle.row_records.proofs.lengths.content_length.Goals as goal

pub returns-clause-exact : goal.returns-clause-exact
returns-clause-exact c = omega (arith, c.varint_length.ensures.exact, content_form c.args.content.now)
