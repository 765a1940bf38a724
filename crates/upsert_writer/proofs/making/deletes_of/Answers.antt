use Rattle.std.proofs.Common.{◌≡◌, ◌∷◌, ◌++◌, [], ◌∙◌, sym, List, Result}
use Rattle.std.specs.Vec.Iter.{into_iter_items}
use Rattle.payload_merge.specs.declared.row.Write.{Write}
use Rattle.table_jobs.specs.NewRows.{delete_of}
use Rattle.table_jobs.specs.declared.del_key.DelKey.{DelKey}
use Rattle.upsert_writer.specs.Batches.{Refusal, made_from}
use Rattle.upsert_writer.specs.declared.making.Stop.TheVariants.{Refused}
use Rattle.upsert_writer.proofs.MadeWrites.{all_are_made, next_told, one_less, still_counted, stop_told}
use Rattle.upsert_writer.proofs.making.deletes_of.Goals as goal

pub loop-key-preserved : goal.loop-key-preserved
loop-key-preserved c =
    let at = c.loop-key in
    let items : List DelKey = into_iter_items at.key-iterator in
    let rest : List DelKey = into_iter_items c.next.new.self in
    let all : Result (List Write) Refusal = made_from (delete_of c.args.is_ordered) 0 c.args.keys in
    let taken : items ≡ c.in-Some.key ∷ rest = c.in-Some.ensures.steps.0 in
    let grown : c.push.new.self ≡ at.writes ++ c.in-Ok.write ∷ [] = c.in-Ok-push.ensures.ok in
    record {
      left = one_less _ _ c.in-Some.key rest items taken c.in-Some.ensures.steps.1 at.invariant.left;
      counted = still_counted at.writes c.push.new.self c.in-Ok.write c.in-Some.key rest items _ grown taken at.invariant.counted;
      made = next_told (delete_of c.args.is_ordered) all at.writes items at.invariant.made c.in-Some.key rest c.in-Ok.write c.push.new.self taken (sym c.in-Ok.ensures) grown;
    }

pub returns-in-Err : goal.returns-in-Err
returns-in-Err c =
    let at = c.loop-key in
    let items : List DelKey = into_iter_items at.key-iterator in
    let rest : List DelKey = into_iter_items c.next.new.self in
    let all : Result (List Write) Refusal = made_from (delete_of c.args.is_ordered) 0 c.args.keys in
    stop_told (delete_of c.args.is_ordered) all at.writes items at.invariant.made c.in-Some.key rest (Refused c.in-Err.cause) c.len.result c.reply_of.result
    c.in-Some.ensures.steps.0 (sym c.in-Err.ensures) c.len.ensures c.reply_of.ensures

pub returns : goal.returns
returns c =
    let at = c.loop-key in
    let all : Result (List Write) Refusal = made_from (delete_of c.args.is_ordered) 0 c.args.keys in
    all_are_made (delete_of c.args.is_ordered) all at.writes (into_iter_items at.key-iterator) at.invariant.made (sym at.invariant.left ∙ c.in-None.ensures.steps.0)
