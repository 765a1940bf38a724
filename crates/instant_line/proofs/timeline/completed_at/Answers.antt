use Rattle.std.proofs.Common.{◌∙◌, refl, sym, arith}
use Rattle.instant_line.proofs.InTime.{none_at}
use Rattle.instant_line.proofs.Moves.{done_time}
use Rattle.instant_line.proofs.timeline.completed_at.Goals as goal
use Rattle.instant_line.proofs.timeline.completed_at.Goals.{else-place-completed-via-then-place-completed+else-ms, else-place-completed-via-else-place-completed}

pub returns : goal.returns
returns c = λ action has. elim c.else-place-completed.branch [
  | else-place-completed-via-then-place-completed+else-ms w ↦
      none_at done_time c.args.t c.args.completed.now c.completed_place-place.result (c.args.t, action) w.index-completed-place.result c.requires c.completed_place-place.ensures.place has refl
      (λ short same. w.if-ms.false (w.ms.ensures.value ∙ same ∙ sym w.ms-then-place-completed.ensures.value))
  | else-place-completed-via-else-place-completed w ↦
      none_at done_time c.args.t c.args.completed.now c.completed_place-place.result (c.args.t, action) (c.args.t, action) c.requires c.completed_place-place.ensures.place has refl
      (λ short same. let past = w.if-place-completed.false in absurd (omega arith))
]
