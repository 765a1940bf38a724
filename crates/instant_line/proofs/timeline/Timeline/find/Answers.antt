use Rattle.std.proofs.Common.{List, subst}
use Rattle.std.specs.List.{Contains}
use Rattle.file_names.specs.declared.file_name.Action.{Action}
use Rattle.file_names.specs.declared.file_name.State.{State}
use Rattle.instant_line.specs.Line.{Held, IsAbsent}
use Rattle.instant_line.proofs.Moves.{Done, Begun, absent-from}
use Rattle.instant_line.proofs.timeline.Timeline.find.Goals as goal

pub returns-in-None : goal.returns-in-None
returns-in-None c =
    let begun = subst (λ (ps : List Begun). (a : Action) (s : State) → Contains ps (c.args.t, a, s) → ⊥) c.as_slice.ensures c.in_default.ensures in
    let done = subst (λ (cs : List Done). (a : Action) → Contains cs (c.args.t, a) → ⊥) c.deref.ensures.value c.in-None.ensures in
    subst (λ (h : Held). IsAbsent h.line c.args.t) c.self.view_is
    (absent-from c.self.inside.completed.items c.self.inside.pending.items c.args.t begun done)
