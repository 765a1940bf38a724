use Rattle.std.proofs.Common.{◌≡◌, ◌-◌, ◌+◌, List, sym, subst}
use Rattle.std.proofs.lemmas.Result.{err_from_is_err_and}
use Rattle.payload_merge.specs.declared.row.Write.{Write}
use Rattle.block_contents.specs.Contents.{items_at}
use Rattle.block_contents.specs.Deletes.{delete_at}
use Rattle.block_contents.proofs.ItemLemmas.{with_before, items_more, items_stop, items_end}
use Rattle.block_contents.proofs.deletes.deletes_at.Goals as goal

pub returns-in_err-delete : goal.returns-in_err-delete
returns-in_err-delete c =
    let p = err_from_is_err_and c.from_residual.result c.from_residual.ensures.1 in
    rw (p.1, p.2) (items_stop (delete_at c.args.partition.now) c.in_err-delete.field-0.0 c.loop.found c.args.count c.loop.counter c.loop.rest.now _ c.loop-test.true c.in_err-delete.ensures c.loop.invariant)

pub loop-preserved : goal.loop-preserved
loop-preserved c =
    let more = items_more (delete_at c.args.partition.now) c.loop.found c.args.count c.loop.counter c.loop.rest.now c.in_ok-delete.delete c.in_ok-delete.after.now _ c.loop-test.true c.in_ok-delete.ensures c.loop.invariant in
    subst (λ (before : List Write). with_before (delete_at c.args.partition.now) before (items_at (delete_at c.args.partition.now) (c.args.count - (c.loop.counter + 1)) c.in_ok-delete.after.now) ≡ items_at (delete_at c.args.partition.now) c.args.count c.args.bytes.now)
    (sym c.in_ok-push.ensures.ok) more

pub returns : goal.returns
returns c = items_end (delete_at c.args.partition.now) c.loop.found c.args.count c.loop.counter c.loop.rest.now _ c.loop-test.false c.loop.invariant
