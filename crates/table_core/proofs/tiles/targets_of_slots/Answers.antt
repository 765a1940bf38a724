use Rattle.table_core.proofs.TileLemmas.{if_ok, are_targets}
use Rattle.table_core.proofs.tiles.targets_of_slots.Goals as goal

pub returns : goal.returns
returns c = if_ok _ _ (λ targets are A same.
    are_targets A c.args.buckets.now c.args.slots.now c.in_ok-groups.groups.keys targets same c.in_ok-groups.ensures c.targets_of.ensures.order are)
    c.targets_of.result c.targets_of.ensures.are
