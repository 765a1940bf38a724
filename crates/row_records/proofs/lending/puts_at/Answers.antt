use Rattle.std.proofs.Common.{◌≡◌, ◌-◌, ◌+◌, ◌++◌, ◌∷◌, [], true, map, List, sym, ap, subst, ◌∙◌, arith}
use Rattle.std.proofs.lemmas.Grind.{common_steps}
use Rattle.std.proofs.lemmas.List.{map-append}
use Rattle.payload_merge.specs.declared.row.Write.{Write}
use Rattle.payload_merge.specs.declared.row.Write.TheVariants.{Put}
use Rattle.payload_merge.specs.declared.row_refs.WriteRef.TheVariants as lent
use Rattle.payload_merge.specs.RowRefs.{row_in, write_in}
use Rattle.block_contents.specs.Contents.{items_at}
use Rattle.block_contents.proofs.ItemLemmas.{with_before, items_more, items_stop, items_end}
use Rattle.row_records.specs.Readers.{place_of, put_at}
use Rattle.row_records.proofs.ContentLemmas.{put_fails, put_found}
use Rattle.row_records.proofs.lending.puts_at.Goals as goal

pub returns-in-Err : goal.returns-in-Err
returns-in-Err c =
    let layout = c.args.records.now.own in
    let place = place_of c.args.place.now in
    items_stop (put_at true layout place) c.in-Err.error (map (write_in c.args.place.now.partition.now) c.loop.found.items) c.args.count c.loop.counter c.loop.rest.now _ c.loop-test.true
    (put_fails true layout place c.loop.rest.now c.in-Err.error c.in-Err.ensures) c.loop.invariant

pub loop-preserved : goal.loop-preserved
loop-preserved c =
    let layout = c.args.records.now.own in
    let place = place_of c.args.place.now in
    let read = put_at true layout place in
    let view = write_in c.args.place.now.partition.now in
    let row = row_in c.args.place.now.partition.now c.in-Ok.row in
    let more = items_more read (map view c.loop.found.items) c.args.count c.loop.counter c.loop.rest.now (Put row) c.in-Ok.after.now _ c.loop-test.true
    (put_found true layout place c.loop.rest.now row c.in-Ok.after.now c.in-Ok.ensures) c.loop.invariant in
    let pushed : c.push.new.self.items ≡ c.loop.found.items ++ lent.Put c.in-Ok.row ∷ [] = grind (arith, common_steps) in
    let split = map-append view c.loop.found.items (lent.Put c.in-Ok.row ∷ []) in
    subst (λ (before : List Write). with_before read before (items_at read (c.args.count - (c.loop.counter + 1)) c.in-Ok.after.now) ≡ items_at read c.args.count c.args.bytes.now)
    (sym (ap (map view) pushed ∙ split)) more

pub returns : goal.returns
returns c =
    items_end (put_at true c.args.records.now.own (place_of c.args.place.now)) (map (write_in c.args.place.now.partition.now) c.loop.found.items) c.args.count c.loop.counter c.loop.rest.now _ c.loop-test.false c.loop.invariant
