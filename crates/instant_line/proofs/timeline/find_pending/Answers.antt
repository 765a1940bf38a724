use Rattle.instant_line.proofs.Moves.{stands-found, stands-read}
use Rattle.instant_line.proofs.timeline.find_pending.Goals as goal

pub bounds-pending-place : goal.bounds-pending-place
bounds-pending-place c =
    (stands-found c.args.pending.now c.args.t c.requires.some.0 c.requires.some.1 c.pending_place-place.result c.requires.order c.requires.some.2
    c.pending_place-place.ensures.place).within

pub returns : goal.returns
returns c =
    stands-read c.args.pending.now c.args.t c.pending_place-place.result (c.args.t, c.requires.some.0, c.requires.some.1) c.index-pending-place.result c.index-pending-place-2.result
    (stands-found c.args.pending.now c.args.t c.requires.some.0 c.requires.some.1 c.pending_place-place.result c.requires.order c.requires.some.2
    c.pending_place-place.ensures.place)
