use Rattle.table_history.specs.JobLaw.{Work}
use Rattle.table_history.specs.Tables.{fresh}
use Rattle.table_board.proofs.Running.{throughout}
use Rattle.table_board.proofs.board.Board.journal.Goals as goal
use Rattle.table_props.specs.PropsTexts.{told_of}

pub returns-clause-images : goal.returns-clause-images
returns-clause-images g c =
    let work : Work = record { Asks = g.W.Work.asks; Holds = g.W.Work.holds } in
    let i = c.self.inside in
    rw (← c.self.view_is) (λ blocks first operations stood.
    throughout work (fresh (told_of i.control.props)) i.first_done (g.S.Store.is_honest i.store) (g.S.Store.state i.store).told i.journal.entries c.self.invariant.on_honest blocks first operations stood)
