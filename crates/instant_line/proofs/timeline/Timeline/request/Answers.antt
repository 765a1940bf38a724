use Rattle.std.proofs.Common.{◌≤◌, List, length, ap, sym, subst}
use Rattle.instant_line.specs.PendingList.{IsPlace}
use Rattle.instant_line.proofs.Moves.{Begun, begun_time, request-line, request-moved}
use Rattle.instant_line.specs.Line.{Held, Line, line_of, IsLine, IsAbsent, IsMoved}
use Rattle.file_names.specs.declared.file_name.State.TheVariants.{Requested}
use Rattle.instant_line.proofs.timeline.Timeline.request.Goals as goal

pub invariant_of-self : goal.invariant_of-self
invariant_of-self c =
    let place = subst (λ (ps : List Begun). IsPlace begun_time c.args.t ps c.pending_place-place.result) c.as_slice.ensures c.pending_place-place.ensures.place in
    let within = subst (λ (ps : List Begun). c.pending_place-place.result ≤ length ps) c.as_slice.ensures c.pending_place-place.ensures.within in
    let absent = subst (λ (l : Line). IsAbsent l c.args.t) (sym (ap (λ (h : Held). h.line) c.self.view_is)) c.requires.follows in
    subst (λ (ps : List Begun). IsLine (line_of c.self.inside.completed.items ps)) (sym c.insert.ensures.items)
    (request-line c.self.inside.completed.items c.self.inside.pending.items c.args.t c.args.action c.pending_place-place.result c.self.invariant absent place within)

pub returns-clause-moved : goal.returns-clause-moved
returns-clause-moved c =
    subst (λ (h : Held). IsMoved h.line (line_of c.self.inside.completed.items c.insert.new.self.items) c.args.t c.args.action Requested) c.self.view_is
    (subst (λ (ps : List Begun). IsMoved (line_of c.self.inside.completed.items c.self.inside.pending.items) (line_of c.self.inside.completed.items ps) c.args.t c.args.action Requested) (sym c.insert.ensures.items)
    (request-moved c.self.inside.completed.items c.self.inside.pending.items c.args.t c.args.action c.pending_place-place.result))
