use Rattle.table_history.specs.JobLaw.{Work}
use Rattle.table_board.proofs.Beginning.{board_begins}
use Rattle.table_board.proofs.board.Board.new.Goals as goal

pub invariant_of-result : goal.invariant_of-result
invariant_of-result g c =
    let work : Work = record { Asks = g.W.Work.asks; Holds = g.W.Work.holds } in
    board_begins work c.args.control c.new.result c.faults-first_faults.result c.done-first_done.result (g.S.Store.is_honest c.args.store) (g.S.Store.state c.args.store) (g.C.Clock.state c.args.clock).most
    c.new.ensures.entries c.new.ensures.owed c.requires c.faults-first_faults.ensures c.done-first_done.ensures (g.met.S.Store.replayed c.args.store)
