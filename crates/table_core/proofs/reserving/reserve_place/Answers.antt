use Rattle.table_core.proofs.reserving.reserve_place.Goals as goal

pub returns-clause-same : goal.returns-clause-same
returns-clause-same c = λ s. rw c.none.ensures at (c.reserve.ensures.same s)
