use Rattle.std.proofs.Common.{List, ap, sym, subst}
use Rattle.instant_line.proofs.Moves.{Begun}
use Rattle.instant_line.proofs.Builds.{push-pending-line, push-pending-added}
use Rattle.instant_line.specs.Building.{IsBehind, IsAdded}
use Rattle.instant_line.specs.Line.{Held, Line, line_of, IsLine}
use Rattle.instant_line.proofs.timeline.Timeline.push_pending.Goals as goal

pub invariant_of-self-2 : goal.invariant_of-self-2
invariant_of-self-2 c =
    let behind = subst (λ (l : Line). IsBehind l c.args.t) (sym (ap (λ (h : Held). h.line) c.self.view_is)) c.requires.behind in
    subst (λ (ps : List Begun). IsLine (line_of c.self.inside.completed.items ps)) (sym c.in_ok-push.ensures.ok)
    (push-pending-line c.self.inside.completed.items c.self.inside.pending.items c.args.t c.args.action c.args.state c.self.invariant behind c.requires.unfinished)

pub returns : goal.returns
returns c =
    subst (λ (h : Held). IsAdded h.line (line_of c.self.inside.completed.items c.push.new.self.items) c.args.t c.args.action c.args.state) c.self.view_is
    (subst (λ (ps : List Begun). IsAdded (line_of c.self.inside.completed.items c.self.inside.pending.items) (line_of c.self.inside.completed.items ps) c.args.t c.args.action c.args.state)
    (sym c.in_ok-push.ensures.ok)
    (push-pending-added c.self.inside.completed.items c.self.inside.pending.items c.args.t c.args.action c.args.state c.requires.unfinished))
