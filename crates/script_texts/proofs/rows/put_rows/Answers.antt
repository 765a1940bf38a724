use Rattle.std.proofs.Common.{sym, subst}
use Rattle.std.proofs.lemmas.List.Elements.{All-get_or}
use Rattle.row_values.specs.RowCells.{IsOwnRow}
use Rattle.script_texts.specs.Texts.{rows_text}
use Rattle.script_texts.proofs.RowParts.{begun, row_failed, row_more, rows_closed}
use Rattle.script_texts.proofs.rows.put_rows.Goals as goal

pub loop-place-init : goal.loop-place-init
loop-place-init c = begun c.args.codec.now.records.own c.args.rows.now c.args.out.now.items c.put_text.new.out.items c.in_ok-put_text.ensures

pub put_item-requires : goal.put_item-requires
put_item-requires c =
    let own = IsOwnRow c.args.codec.now.records.own in
    subst own (sym c.index-rows-place.is) (All-get_or own c.args.rows.now c.loop-place.place c.index-rows-place.result c.loop-place-test.true c.requires)

pub loop-place-preserved : goal.loop-place-preserved
loop-place-preserved c =
    row_more c.args.codec.now.records.own c.args.rows.now c.loop-place.place c.index-rows-place.result c.args.out.now.items c.loop-place.out.items c.put_item.new.out.items
    c.loop-place.invariant c.loop-place-test.true c.index-rows-place.is c.in_ok-put_item.ensures

pub returns-in_err-put_item : goal.returns-in_err-put_item
returns-in_err-put_item c =
    row_failed c.from_residual-in_err-put_item.result c.args.codec.now.records.own c.args.rows.now c.loop-place.place c.args.out.now.items c.loop-place.out.items c.put_item.new.out.items
    (rows_text c.args.codec.now.records.own c.args.rows.now) c.loop-place.invariant c.from_residual-in_err-put_item.ensures.0 c.in_err-put_item.ensures

pub returns : goal.returns
returns c =
    rows_closed c.put_text-2.result c.args.codec.now.records.own c.args.rows.now c.loop-place.place c.args.out.now.items c.loop-place.out.items c.put_text-2.new.out.items
    c.loop-place.invariant c.loop-place-test.false c.put_text-2.ensures
