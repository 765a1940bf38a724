use Rattle.table_board.proofs.Going.{stepped, stepped_alone}
use Rattle.table_board.proofs.solo.SoloSteps.apply.Goals as goal

pub returns-clause-later : goal.returns-clause-later
returns-clause-later g c =
    let old = c.args.self.now.board in
    let new = c.step.new.self in
    stepped_alone c.args.self.now.job c.args.step c.step.result old.entries new.entries _ c.step.ensures.entries
    (stepped old.origin new.origin (g.S.Store.is_honest old.store) (g.S.Store.is_honest new.store) (g.S.Store.state old.store) (g.S.Store.state new.store)
    (g.C.Clock.state old.clock) (g.C.Clock.state new.clock) _ c.args.step c.step.result _ c.step.ensures.origin c.step.ensures.honest c.step.ensures.store c.step.ensures.faults
    c.step.ensures.clock)
