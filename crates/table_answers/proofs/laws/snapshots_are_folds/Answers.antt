use Rattle.table_history.specs.JobLaw.{Work}
use Rattle.table_answers.proofs.SnapshotAnswers.{snapshot_is_fold}
use Rattle.table_answers.proofs.laws.snapshots_are_folds.Goals as goal

pub returns : goal.returns
returns g c =
    let work : Work = record { Asks = g.W.Work.asks; Holds = g.W.Work.holds } in
    snapshot_is_fold work
