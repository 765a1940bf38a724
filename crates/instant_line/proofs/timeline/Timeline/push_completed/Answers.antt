use Rattle.std.proofs.Common.{List, ap, sym, subst}
use Rattle.instant_line.proofs.Moves.{Done}
use Rattle.instant_line.proofs.Builds.{push-completed-line, push-completed-added}
use Rattle.instant_line.specs.Building.{IsBehind, IsAdded}
use Rattle.instant_line.specs.Line.{Held, Line, line_of, IsLine}
use Rattle.file_names.specs.declared.file_name.State.TheVariants.{Completed}
use Rattle.instant_line.proofs.timeline.Timeline.push_completed.Goals as goal

pub invariant_of-self-2 : goal.invariant_of-self-2
invariant_of-self-2 c =
    let behind = subst (λ (l : Line). IsBehind l c.args.t) (sym (ap (λ (h : Held). h.line) c.self.view_is)) c.requires in
    subst (λ (cs : List Done). IsLine (line_of cs c.self.inside.pending.items)) (sym c.in_ok-push.ensures.items)
    (push-completed-line c.self.inside.completed.items c.self.inside.pending.items c.args.t c.args.action c.self.invariant behind)

pub returns : goal.returns
returns c =
    subst (λ (h : Held). IsAdded h.line (line_of c.push.new.self.items c.self.inside.pending.items) c.args.t c.args.action Completed) c.self.view_is
    (subst (λ (cs : List Done). IsAdded (line_of c.self.inside.completed.items c.self.inside.pending.items) (line_of cs c.self.inside.pending.items) c.args.t c.args.action Completed)
    (sym c.in_ok-push.ensures.items)
    (push-completed-added c.self.inside.completed.items c.self.inside.pending.items c.args.t c.args.action))
