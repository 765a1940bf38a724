use Rattle.std.proofs.Common.{◌≤◌, List, length, sym, subst}
use Rattle.std.specs.List.{insert}
use Rattle.instant_line.specs.PendingList.{IsPlace}
use Rattle.instant_line.proofs.Moves.{Done, Begun, done_time, complete-line, complete-moved}
use Rattle.instant_line.specs.Line.{Held, line_of, IsLine, IsMoved}
use Rattle.instant_line.specs.PendingList.{StandsAt}
use Rattle.file_names.specs.declared.file_name.State.TheVariants.{Completed}
use Rattle.instant_line.proofs.timeline.Timeline.complete.Goals as goal

pub invariant_of-self : goal.invariant_of-self
invariant_of-self c =
    let found = c.find_pending-gone.result in
    let here = subst (λ (ps : List Begun). StandsAt ps c.args.t found.0 (c.args.t, found.1, found.2)) c.as_slice.ensures c.find_pending-gone.ensures in
    let place = subst (λ (cs : List Done). IsPlace done_time c.args.t cs c.completed_place-place.result) c.deref.ensures.value c.completed_place-place.ensures.place in
    let within = subst (λ (cs : List Done). c.completed_place-place.result ≤ length cs) c.deref.ensures.value c.completed_place-place.ensures.within in
    subst (λ (cs : List Done). IsLine (line_of cs c.remove.new.self.items)) (sym c.in-Ok.ensures.items)
    (subst (λ (ps : List Begun). IsLine (line_of (insert c.self.inside.completed.items c.completed_place-place.result (c.args.t, c.args.action)) ps)) (sym c.remove.ensures.items)
    (complete-line c.self.inside.completed.items c.self.inside.pending.items c.args.t c.args.action found.0 c.completed_place-place.result (c.args.t, found.1, found.2)
    c.self.invariant here place within))

pub returns-clause-moved : goal.returns-clause-moved
returns-clause-moved c =
    let found = c.find_pending-gone.result in
    let here = subst (λ (ps : List Begun). StandsAt ps c.args.t found.0 (c.args.t, found.1, found.2)) c.as_slice.ensures c.find_pending-gone.ensures in
    subst (λ (h : Held). IsMoved h.line (line_of c.insert.new.self.items c.remove.new.self.items) c.args.t c.args.action Completed) c.self.view_is
    (subst (λ (cs : List Done). IsMoved (line_of c.self.inside.completed.items c.self.inside.pending.items) (line_of cs c.remove.new.self.items) c.args.t c.args.action Completed) (sym c.in-Ok.ensures.items)
    (subst (λ (ps : List Begun). IsMoved (line_of c.self.inside.completed.items c.self.inside.pending.items)
    (line_of (insert c.self.inside.completed.items c.completed_place-place.result (c.args.t, c.args.action)) ps) c.args.t c.args.action Completed) (sym c.remove.ensures.items)
    (complete-moved c.self.inside.completed.items c.self.inside.pending.items c.args.t c.args.action found.0 c.completed_place-place.result (c.args.t, found.1, found.2) here)))
