use Rattle.std.proofs.Common.{◌∙◌, refl, sym, arith}
use Rattle.instant_line.proofs.InTime.{none_at}
use Rattle.instant_line.proofs.Moves.{begun_time}
use Rattle.instant_line.proofs.timeline.pending_at.Goals as goal
use Rattle.instant_line.proofs.timeline.pending_at.Goals.{else-place-pending-via-then-place-pending+else-ms, else-place-pending-via-else-place-pending}

pub returns : goal.returns
returns c = λ action state has. elim c.else-place-pending.branch [
  | else-place-pending-via-then-place-pending+else-ms w ↦
      none_at begun_time c.args.t c.args.pending.now c.pending_place-place.result (c.args.t, action, state) w.index-pending-place.result c.requires c.pending_place-place.ensures.place has refl
      (λ short same. w.if-ms.false (w.ms.ensures.value ∙ same ∙ sym w.ms-then-place-pending.ensures.value))
  | else-place-pending-via-else-place-pending w ↦
      none_at begun_time c.args.t c.args.pending.now c.pending_place-place.result (c.args.t, action, state) (c.args.t, action, state) c.requires c.pending_place-place.ensures.place has refl
      (λ short same. let past = w.if-place-pending.false in absurd (omega arith))
]
