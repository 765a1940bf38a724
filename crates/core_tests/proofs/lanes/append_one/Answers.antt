use Rattle.core_tests.specs.Past.{Writing}
use Rattle.core_tests.proofs.Pairs.{swapped, first_of}
use Rattle.core_tests.proofs.lanes.append_one.Goals as goal

pub append_in_vain-requires : goal.append_in_vain-requires
append_in_vain-requires c = first_of _ _ _ _ _ _ _ (swapped _ _ _ _ _ _ _ c.requires)

pub append-requires : goal.append-requires
append-requires c = first_of _ _ _ _ _ _ _ (swapped _ _ _ _ _ _ _ (c.in_ok-append_in_vain.ensures.beside Writing _ _ (swapped _ _ _ _ _ _ _ c.requires)))

pub returns : goal.returns
returns c = c.in_ok-append.ensures.beside Writing _ _ (swapped _ _ _ _ _ _ _ (c.in_ok-append_in_vain.ensures.beside Writing _ _ (swapped _ _ _ _ _ _ _ c.requires)))
