use Rattle.std.proofs.Common.{arith, ◌+◌, ◌-◌, ◌++◌, ◌∷◌, [], sym, ◌∙◌}
use Rattle.std.proofs.lemmas.Result.{err_from_is_err_and}
use Rattle.parquet_meta.specs.Reading.{items_at, with_value}
use Rattle.parquet_meta.proofs.ReadingLemmas.{passes_on, items_at-none, items_at-Err, items_at-next}
use Rattle.parquet_meta.proofs.fields.read_items.Goals as goal

pub returns : goal.returns
returns g c = (sym c.loop-item.invariant.0 ∙ items_at-none g.T.Item.item_at (c.args.count - c.loop-item._item) c.loop-item.items c.loop-item.reader.rest (omega arith), c.loop-item.invariant.1)

pub returns-in_err-push_item : goal.returns-in_err-push_item
returns-in_err-push_item g c =
    let p = err_from_is_err_and c.from_residual.result c.from_residual.ensures.1 in
    rw (p.1, p.2)
    (passes_on c.loop-item.reader.total c.args.reader.now.total c.in_err-push_item.field-0.0 (with_value (λ x. c.loop-item.items ++ x ∷ []) (g.T.Item.item_at c.loop-item.reader.rest)) (items_at g.T.Item.item_at c.args.count c.args.reader.now.rest) c.loop-item.invariant.1
    (λ error e. sym c.loop-item.invariant.0 ∙ items_at-Err g.T.Item.item_at (c.args.count - c.loop-item._item) c.loop-item.items c.loop-item.reader.rest error (omega arith) e)
    c.in_err-push_item.ensures)

pub loop-item-preserved : goal.loop-item-preserved
loop-item-preserved g c =
    let step = items_at-next g.T.Item.item_at (c.args.count - c.loop-item._item) (c.args.count - (c.loop-item._item + 1)) c.loop-item.items c.push_item.new.items c.loop-item.reader.rest c.push_item.new.reader.rest (omega arith) c.in_ok-push_item.ensures.0 in
    (sym step ∙ c.loop-item.invariant.0, c.in_ok-push_item.ensures.1 ∙ c.loop-item.invariant.1)
