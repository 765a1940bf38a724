use Rattle.std.proofs.Common.{map, subst, sym}
use Rattle.payload_merge.specs.KeyOrder.{OrdersByKey, write_of}
use Rattle.payload_merge.proofs.WritesInOrder.{folded_if_ok}
use Rattle.payload_merge.proofs.lent_fold.fold_writes.Goals as goal

pub returns : goal.returns
returns c =
    let order = subst (λ prefixed. OrdersByKey c.args.writes.now (map write_of prefixed)) (sym c.deref.ensures.value) c.in_ok-ordered.ensures in
    folded_if_ok (λ rows. rows.items) c.args.writes.now (map write_of c.deref.result.now) c.fold_in_order.result order c.fold_in_order.ensures
