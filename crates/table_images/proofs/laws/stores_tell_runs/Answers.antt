use Rattle.table_history.specs.JobLaw.{Work}
use Rattle.table_images.proofs.GoesOn.{appends, begins, creates, fails_on, nothing, told_images}
use Rattle.table_images.proofs.laws.stores_tell_runs.Goals as goal

pub returns : goal.returns
returns g c =
    let work : Work = record { Asks = g.W.Work.asks; Holds = g.W.Work.holds } in
    record {
      begins = λ A files before. begins work A files before;
      nothing = λ A files before. nothing work A files before;
      creates = λ A files before. creates work A files before;
      appends = λ A files before. appends work A files before;
      fails = λ A files before. fails_on work A files before;
      images = told_images work;
    }
