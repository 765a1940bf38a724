use Rattle.std.proofs.Common.{◌≢◌, List, sym, subst}
use Rattle.instant_line.proofs.Moves.{Begun, replace-line, start-moved}
use Rattle.instant_line.specs.Line.{Held, line_of, IsLine, IsMoved}
use Rattle.instant_line.specs.PendingList.{StandsAt}
use Rattle.file_names.specs.declared.file_name.State.TheVariants.{Inflight, Completed}
use Rattle.instant_line.proofs.timeline.Timeline.start.Goals as goal

pub invariant_of-self : goal.invariant_of-self
invariant_of-self c =
    let found = c.find_pending-place.result in
    let here = subst (λ (ps : List Begun). StandsAt ps c.args.t found.0 (c.args.t, found.1, found.2)) c.as_slice.ensures c.find_pending-place.ensures in
    let un : Inflight ≢ Completed = λ e. cc in
    subst (λ (ps : List Begun). IsLine (line_of c.self.inside.completed.items ps)) (sym c.replace.ensures.items)
    (replace-line c.self.inside.completed.items c.self.inside.pending.items c.args.t c.args.action Inflight found.0 (c.args.t, found.1, found.2) c.self.invariant here un)

pub returns-clause-moved : goal.returns-clause-moved
returns-clause-moved c =
    let found = c.find_pending-place.result in
    let here = subst (λ (ps : List Begun). StandsAt ps c.args.t found.0 (c.args.t, found.1, found.2)) c.as_slice.ensures c.find_pending-place.ensures in
    subst (λ (h : Held). IsMoved h.line (line_of c.self.inside.completed.items c.replace.new.self.items) c.args.t c.args.action Inflight) c.self.view_is
    (subst (λ (ps : List Begun). IsMoved (line_of c.self.inside.completed.items c.self.inside.pending.items) (line_of c.self.inside.completed.items ps) c.args.t c.args.action Inflight) (sym c.replace.ensures.items)
    (start-moved c.self.inside.completed.items c.self.inside.pending.items c.args.t c.args.action found.0 (c.args.t, found.1, found.2) here))
