use Rattle.std.proofs.Common.{◌≡◌, ◌-◌, ◌+◌, false, List, sym, subst}
use Rattle.std.proofs.lemmas.Result.{err_from_is_err_and}
use Rattle.payload_merge.specs.declared.row.Write.{Write}
use Rattle.block_contents.specs.Contents.{items_at}
use Rattle.block_contents.proofs.ItemLemmas.{with_before, items_more, items_stop, items_end}
use Rattle.row_records.specs.Readers.{place_of, put_at}
use Rattle.row_records.proofs.reading.puts_at.Goals as goal

pub returns-in_err-write : goal.returns-in_err-write
returns-in_err-write c =
    let read = put_at false c.args.records.now.own (place_of c.args.place.now) in
    let p = err_from_is_err_and c.from_residual.result c.from_residual.ensures.1 in
    rw (p.1, p.2) (items_stop read c.in_err-write.field-0.0 c.loop.found c.args.count c.loop.counter c.loop.rest.now _ c.loop-test.true c.in_err-write.ensures c.loop.invariant)

pub loop-preserved : goal.loop-preserved
loop-preserved c =
    let read = put_at false c.args.records.now.own (place_of c.args.place.now) in
    let more = items_more read c.loop.found c.args.count c.loop.counter c.loop.rest.now c.in_ok-write.write c.in_ok-write.after.now _ c.loop-test.true c.in_ok-write.ensures c.loop.invariant in
    subst (λ (before : List Write). with_before read before (items_at read (c.args.count - (c.loop.counter + 1)) c.in_ok-write.after.now) ≡ items_at read c.args.count c.args.bytes.now)
    (sym c.in_ok-push.ensures.ok) more

pub returns : goal.returns
returns c = items_end (put_at false c.args.records.now.own (place_of c.args.place.now)) c.loop.found c.args.count c.loop.counter c.loop.rest.now _ c.loop-test.false c.loop.invariant
