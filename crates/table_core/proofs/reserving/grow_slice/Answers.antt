use Rattle.table_core.specs.Keys.{target_cmp}
use Rattle.table_core.specs.Rooms.{found}
use Rattle.table_core.proofs.SliceRooms.{changed_one}
use Rattle.table_core.proofs.reserving.grow_slice.Goals as goal

pub returns-clause-same : goal.returns-clause-same
returns-clause-same c = λ s.
    changed_one (found target_cmp c.args.slices.now) (found target_cmp c.swap.new.self) (found target_cmp c.swap-2.new.self) c.args.slice.now s
    c.swap.new.value c.reserve-reserved.new.self _ c.swap.ensures.value c.swap.ensures.given_back c.reserve-reserved.ensures.same c.swap-2.ensures.value
