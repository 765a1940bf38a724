use Rattle.core_tests.specs.Past.{Placed}
use Rattle.core_tests.proofs.Pairs.{swapped, first_of}
use Rattle.core_tests.proofs.lanes.abandon_one.Goals as goal

pub abandon-requires : goal.abandon-requires
abandon-requires c = first_of _ _ _ _ _ _ _ (swapped _ _ _ _ _ _ _ c.requires)

pub finish-requires : goal.finish-requires
finish-requires c = c.in_ok-abandon.ensures.beside Placed _ _ (swapped _ _ _ _ _ _ _ c.requires)
