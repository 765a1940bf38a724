use Rattle.std.proofs.Common.{◌≡◌, ◌∷◌, ◌++◌, [], ◌∙◌, sym, List, Result}
use Rattle.std.proofs.lemmas.List.Elements.{All-head, All-same, All-tail}
use Rattle.std.specs.Vec.Iter.{into_iter_items}
use Rattle.payload_merge.specs.declared.row.Write.{Write}
use Rattle.upsert_writer.specs.BatchFits.{IsFit}
use Rattle.upsert_writer.specs.Batches.{NewWrites, Refusal, made_from, put_of}
use Rattle.upsert_writer.specs.declared.batch.PutRow.{PutRow}
use Rattle.upsert_writer.proofs.MadeWrites.{all_are_made, next_told, one_less, still_counted, stop_told}
use Rattle.upsert_writer.proofs.making.puts_of.Goals as goal

pub put_of-requires : goal.put_of-requires
put_of-requires g c =
    let at = c.loop-row in
    let rest : List PutRow = into_iter_items c.next.new.self in
    let P : PutRow → Type 0 = IsFit (g.K.TableCodec.fits c.args.codec.now) in
    All-head P c.in-Some.row rest (All-same P (c.in-Some.row ∷ rest) (into_iter_items at.row-iterator) (sym c.in-Some.ensures.steps.0) at.invariant.fit)

pub loop-row-preserved : goal.loop-row-preserved
loop-row-preserved g c =
    let new : NewWrites = record { row = g.K.TableCodec.row_made c.args.codec.now; is_ordered = g.K.TableCodec.is_ordered c.args.codec.now } in
    let P : PutRow → Type 0 = IsFit (g.K.TableCodec.fits c.args.codec.now) in
    let at = c.loop-row in
    let items : List PutRow = into_iter_items at.row-iterator in
    let rest : List PutRow = into_iter_items c.next.new.self in
    let all : Result (List Write) Refusal = made_from (put_of new) 0 c.args.rows in
    let taken : items ≡ c.in-Some.row ∷ rest = c.in-Some.ensures.steps.0 in
    let grown : c.push.new.self ≡ at.writes ++ c.in-Ok.write ∷ [] = c.in-Ok-push.ensures.ok in
    record {
      can_next = tt;
      is_finite = tt;
      left = one_less _ _ c.in-Some.row rest items taken c.in-Some.ensures.steps.1 at.invariant.left;
      fit = All-tail P c.in-Some.row rest (All-same P (c.in-Some.row ∷ rest) items (sym taken) at.invariant.fit);
      counted = still_counted at.writes c.push.new.self c.in-Ok.write c.in-Some.row rest items _ grown taken at.invariant.counted;
      made = next_told (put_of new) all at.writes items at.invariant.made c.in-Some.row rest c.in-Ok.write c.push.new.self taken c.in-Ok.ensures grown;
    }

pub returns-in-Err : goal.returns-in-Err
returns-in-Err g c =
    let new : NewWrites = record { row = g.K.TableCodec.row_made c.args.codec.now; is_ordered = g.K.TableCodec.is_ordered c.args.codec.now } in
    let at = c.loop-row in
    let items : List PutRow = into_iter_items at.row-iterator in
    let rest : List PutRow = into_iter_items c.next.new.self in
    let all : Result (List Write) Refusal = made_from (put_of new) 0 c.args.rows in
    stop_told (put_of new) all at.writes items at.invariant.made c.in-Some.row rest c.in-Err.stop c.len.result c.reply_of.result
    c.in-Some.ensures.steps.0 c.in-Err.ensures c.len.ensures c.reply_of.ensures

pub returns : goal.returns
returns g c =
    let new : NewWrites = record { row = g.K.TableCodec.row_made c.args.codec.now; is_ordered = g.K.TableCodec.is_ordered c.args.codec.now } in
    let at = c.loop-row in
    let all : Result (List Write) Refusal = made_from (put_of new) 0 c.args.rows in
    all_are_made (put_of new) all at.writes (into_iter_items at.row-iterator) at.invariant.made (sym at.invariant.left ∙ c.in-None.ensures.steps.0)
