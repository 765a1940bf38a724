use Rattle.table_history.specs.JobLaw.{Work}
use Rattle.table_answers.proofs.Closed.{completed_stay, writes_stay}
use Rattle.table_answers.proofs.laws.completed_instants_stay.Goals as goal

pub returns : goal.returns
returns g c =
    let work : Work = record { Asks = g.W.Work.asks; Holds = g.W.Work.holds } in
    record { completed = completed_stay work; wrote = writes_stay work }
