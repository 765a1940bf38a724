use Rattle.std.proofs.Common.{◌≢◌, List, ap, sym, subst}
use Rattle.std.specs.List.{Contains}
use Rattle.instant_line.proofs.Moves.{Begun, pending-has, replace-line, back-moved, withdraw-line, withdraw-moved}
use Rattle.instant_line.specs.Line.{Held, Line, line_of, IsLine, IsPending, IsTakenBack}
use Rattle.instant_line.specs.PendingList.{StandsAt}
use Rattle.file_names.specs.declared.file_name.State.TheVariants.{Requested, Completed}
use Rattle.instant_line.proofs.timeline.Timeline.take_back.Goals as goal

pub find_pending-place-requires-clause-some : goal.find_pending-place-requires-clause-some
find_pending-place-requires-clause-some c =
    let is = subst (λ (l : Line). IsPending l c.args.t) (sym (ap (λ (h : Held). h.line) c.self.view_is)) c.requires in
    let has = pending-has c.self.inside.completed.items c.self.inside.pending.items c.args.t is.0 is.1 is.2 is.3 in
    (is.0, is.1, subst (λ (ps : List Begun). Contains ps (c.args.t, is.0, is.1)) (sym c.as_slice.ensures) has)

pub invariant_of-self : goal.invariant_of-self
invariant_of-self c =
    let found = c.find_pending-place.result in
    let here = subst (λ (ps : List Begun). StandsAt ps c.args.t found.0 (c.args.t, found.1, found.2)) c.as_slice.ensures c.find_pending-place.ensures in
    let un : Requested ≢ Completed = λ e. cc in
    subst (λ (ps : List Begun). IsLine (line_of c.self.inside.completed.items ps)) (sym c.replace.ensures.items)
    (replace-line c.self.inside.completed.items c.self.inside.pending.items c.args.t found.1 Requested found.0 (c.args.t, found.1, found.2) c.self.invariant here un)

pub invariant_of-self-in_default : goal.invariant_of-self-in_default
invariant_of-self-in_default c =
    let found = c.find_pending-place.result in
    let here = subst (λ (ps : List Begun). StandsAt ps c.args.t found.0 (c.args.t, found.1, found.2)) c.as_slice.ensures c.find_pending-place.ensures in
    subst (λ (ps : List Begun). IsLine (line_of c.self.inside.completed.items ps)) (sym c.remove.ensures.items)
    (withdraw-line c.self.inside.completed.items c.self.inside.pending.items c.args.t found.0 (c.args.t, found.1, found.2) c.self.invariant here)

pub returns-in-Inflight-clause-taken_back : goal.returns-in-Inflight-clause-taken_back
returns-in-Inflight-clause-taken_back c =
    let found = c.find_pending-place.result in
    let here = subst (λ (ps : List Begun). StandsAt ps c.args.t found.0 (c.args.t, found.1, found.2)) c.as_slice.ensures c.find_pending-place.ensures in
    subst (λ (h : Held). IsTakenBack h.line (line_of c.self.inside.completed.items c.replace.new.self.items) c.args.t) c.self.view_is
    (subst (λ (ps : List Begun). IsTakenBack (line_of c.self.inside.completed.items c.self.inside.pending.items) (line_of c.self.inside.completed.items ps) c.args.t) (sym c.replace.ensures.items)
    (back-moved c.self.inside.completed.items c.self.inside.pending.items c.args.t found.0 (c.args.t, found.1, found.2) c.self.invariant here c.in-Inflight.is))

pub returns-in_default-clause-taken_back : goal.returns-in_default-clause-taken_back
returns-in_default-clause-taken_back c =
    let found = c.find_pending-place.result in
    let here = subst (λ (ps : List Begun). StandsAt ps c.args.t found.0 (c.args.t, found.1, found.2)) c.as_slice.ensures c.find_pending-place.ensures in
    subst (λ (h : Held). IsTakenBack h.line (line_of c.self.inside.completed.items c.remove.new.self.items) c.args.t) c.self.view_is
    (subst (λ (ps : List Begun). IsTakenBack (line_of c.self.inside.completed.items c.self.inside.pending.items) (line_of c.self.inside.completed.items ps) c.args.t) (sym c.remove.ensures.items)
    (withdraw-moved c.self.inside.completed.items c.self.inside.pending.items c.args.t found.0 (c.args.t, found.1, found.2) c.self.invariant here c.in_default.not-Inflight))
