use Rattle.instant_line.proofs.NameNumbers.{has-one}
use Rattle.instant_line.proofs.first_break.has.Goals as goal

pub returns : goal.returns
returns c =
    let one = has-one c.args.entries.now c.args.t c.args.action c.args.state c.name_number-number.result c.name_number-number.ensures.value in
    (λ test. one.0 (c.has_between.ensures.0 test), λ has. c.has_between.ensures.1 (one.1 has))
