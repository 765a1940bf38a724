use Rattle.table_history.specs.JobLaw.{Work}
use Rattle.table_answers.proofs.Beginnings.{legal_before, named_before, run_names}
use Rattle.table_answers.proofs.laws.beginnings_are_legal.Goals as goal

pub returns : goal.returns
returns g c =
    let work : Work = record { Asks = g.W.Work.asks; Holds = g.W.Work.holds } in
    record { legal = legal_before work; names = named_before; runs = run_names work }
