use Rattle.core_tests.specs.Past.{Drawn, Writing}
use Rattle.core_tests.proofs.Pairs.{swapped, first_of}
use Rattle.core_tests.proofs.lanes.enter_both.Goals as goal

pub enter-requires : goal.enter-requires
enter-requires c = first_of _ _ _ _ _ _ _ c.requires

pub enter-requires-2 : goal.enter-requires-2
enter-requires-2 c = first_of _ _ _ _ _ _ _ (swapped _ _ _ _ _ _ _ (c.in_ok-enter.ensures.beside Drawn _ _ c.requires))

pub returns : goal.returns
returns c = c.in_ok-enter-2.ensures.beside Writing _ _ (swapped _ _ _ _ _ _ _ (c.in_ok-enter.ensures.beside Drawn _ _ c.requires))
