-- Later states of a board, by what is seen of its store and its clock.
use Rattle.hudi_base.specs.Clock.{ClockState}
use Rattle.hudi_base.specs.Store.{StoreState}
use Rattle.table_board.specs.Boards.{BoardState}
use Rattle.table_board.specs.Later.{IsLater}
use Rattle.table_board.specs.LaterLaws.{later_on}

-- what is seen of a store and of a clock
pub record Seen (S C : Type 0) : Type 1 where
  pub is_honest : S → Type 0
  pub state : S → StoreState
  pub clock : C → ClockState

abbrev pub LaterBoard : {S C : Type 0} → Seen S C → BoardState S C → BoardState S C → Type 0
LaterBoard seen from to =
    IsLater from.origin to.origin (seen.is_honest from.store) (seen.is_honest to.store) (seen.state from.store) (seen.state to.store) (seen.clock from.clock) (seen.clock to.clock)

pub later_board : {S C : Type 0} (seen : Seen S C) (from mid to : BoardState S C) → LaterBoard seen from mid → LaterBoard seen mid to → LaterBoard seen from to
later_board seen from mid to one two =
    later_on from.origin mid.origin to.origin (seen.is_honest from.store) (seen.is_honest mid.store) (seen.is_honest to.store) (seen.state from.store) (seen.state mid.store) (seen.state to.store)
    (seen.clock from.clock) (seen.clock mid.clock) (seen.clock to.clock) one two
