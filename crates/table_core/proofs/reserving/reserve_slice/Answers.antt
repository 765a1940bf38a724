use Rattle.table_core.proofs.SliceRooms.{same_as, same_then}
use Rattle.table_core.proofs.reserving.reserve_slice.Goals as goal

pub returns-in_err-reserve_place-clause-same : goal.returns-in_err-reserve_place-clause-same
returns-in_err-reserve_place-clause-same c = λ s. same_as _ _ (c.reserve_place.ensures.same s)

pub returns-clause-same : goal.returns-clause-same
returns-clause-same c = λ s. same_then _ _ _ (same_as _ _ (c.reserve_place.ensures.same s)) (c.grow_slice.ensures.same s)
