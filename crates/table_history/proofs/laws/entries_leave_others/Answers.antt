use Rattle.table_history.proofs.Apart as apart
use Rattle.table_history.proofs.laws.entries_leave_others.Goals as goal

pub returns : goal.returns
returns c = record { instants = apart.instant_of-apart; pins = apart.pin_of-apart; slices = apart.same_slice }
