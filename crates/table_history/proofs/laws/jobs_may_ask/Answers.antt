use Rattle.table_history.specs.Histories.{own}
use Rattle.table_history.specs.JobLaw.{Work, phase}
use Rattle.table_history.proofs.OwnEntries.{linked, may_ask}
use Rattle.table_history.proofs.laws.jobs_may_ask.Goals as goal

pub returns : goal.returns
returns g c =
    let work : Work = record { Asks = g.W.Work.asks; Holds = g.W.Work.holds } in record {
      stands = λ A H opened legal j. linked work A H opened legal j;
      may = λ A H opened legal j s allows. may_ask work A H j (phase (own j H)) s (linked work A H opened legal j) allows;
    }
