use Rattle.core_tests.specs.Past.{Writing, Placed}
use Rattle.core_tests.proofs.Pairs.{swapped, first_of}
use Rattle.core_tests.proofs.lanes.append_both.Goals as goal

pub append-requires : goal.append-requires
append-requires c = first_of _ _ _ _ _ _ _ (swapped _ _ _ _ _ _ _ c.requires)

pub append-requires-2 : goal.append-requires-2
append-requires-2 c = first_of _ _ _ _ _ _ _ (swapped _ _ _ _ _ _ _ (c.in_ok-append.ensures.beside Writing _ _ (swapped _ _ _ _ _ _ _ c.requires)))

pub returns : goal.returns
returns c = c.in_ok-append-2.ensures.beside Placed _ _ (swapped _ _ _ _ _ _ _ (c.in_ok-append.ensures.beside Writing _ _ (swapped _ _ _ _ _ _ _ c.requires)))
