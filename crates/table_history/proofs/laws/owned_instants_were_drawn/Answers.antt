use Rattle.table_history.proofs.Bounds.{owned_bound, undrawn, fresh_opened, reopened_opened}
use Rattle.table_history.proofs.laws.owned_instants_were_drawn.Goals as goal

pub returns : goal.returns
returns c = record { drawn = owned_bound; undrawn = undrawn; fresh = fresh_opened; reopened = reopened_opened }
