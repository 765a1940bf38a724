use Rattle.table_core.proofs.ViewLemmas.{latest_decides}
use Rattle.table_core.proofs.control.Control.decide_pin_of_latest.Goals as goal

pub returns : goal.returns
returns c = λ A H now is. rw c.without_operation.ensures (latest_decides A H c.args.self.now c.args.bases_only c.in_ok-view.view now is c.in_ok-view.ensures)
