use Rattle.core_tests.specs.Past.{Placed}
use Rattle.core_tests.proofs.Pairs.{swapped, first_of}
use Rattle.core_tests.proofs.lanes.finish_both.Goals as goal

pub finish-requires : goal.finish-requires
finish-requires c = first_of _ _ _ _ _ _ _ (swapped _ _ _ _ _ _ _ c.requires)

pub finish-requires-2 : goal.finish-requires-2
finish-requires-2 c = c.in_ok-finish.ensures.beside Placed _ _ (swapped _ _ _ _ _ _ _ c.requires)
