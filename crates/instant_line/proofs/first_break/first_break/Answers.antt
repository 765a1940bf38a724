use Rattle.instant_line.proofs.FirstBreaks.{none-breaks, first-breaks}
use Rattle.instant_line.proofs.first_break.first_break.Goals as goal

pub returns-in-Some : goal.returns-in-Some
returns-in-Some c = first-breaks c.args.entries.now c.args.names.now (c.in-Some.i, c.in-Some.field-0-1) c.requires.same c.in-Some.ensures

pub returns-in-None : goal.returns-in-None
returns-in-None c = none-breaks c.args.entries.now c.args.names.now c.requires.same c.in-None.ensures
