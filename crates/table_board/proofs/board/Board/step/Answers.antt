use Rattle.std.proofs.Common.{refl, arith}
use Rattle.table_history.specs.JobLaw.{Work}
use Rattle.table_board.proofs.Counting.{board_same}
use Rattle.table_board.proofs.Drawing.{asked_later}
use Rattle.table_board.proofs.board.Board.step.Goals as goal

pub invariant_of-self : goal.invariant_of-self
invariant_of-self g c =
    let work : Work = record { Asks = g.W.Work.asks; Holds = g.W.Work.holds } in
    let i = c.self.inside in
    let before = g.C.Clock.state i.clock in
    let after = g.C.Clock.state c.ask-now.new.clock in
    let m = (g.S.Store.state i.store).faults in
    record {
      always = board_same work i.control i.control i.journal i.journal i.first_faults m m before.most after.most c.self.invariant.always
          (λ A H is. is) refl refl (omega arith) (omega arith) (asked_later c.args.step before after c.ask-now.ensures.asks);
      replies = c.self.invariant.replies;
      on_honest = c.self.invariant.on_honest;
    }
