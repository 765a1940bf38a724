use Rattle.core_tests.specs.Past.{Drawn}
use Rattle.core_tests.proofs.lanes.begin_both.Goals as goal

pub returns : goal.returns
returns c = c.in_ok-second.ensures.beside Drawn _ _ c.in_ok-first.ensures.own
