use Rattle.std.proofs.Common.{sym, subst}
use Rattle.std.proofs.lemmas.List.Elements.{All-get_or}
use Rattle.row_values.specs.RowCells.{IsOwnRow}
use Rattle.codec_tool.proofs.blocks.put_lines.Goals as goal

pub loop-row-init : goal.loop-row-init
loop-row-init c = tt {0}

pub loop-row-preserved : goal.loop-row-preserved
loop-row-preserved c = tt {0}

pub put_line-requires : goal.put_line-requires
put_line-requires c =
    let own = IsOwnRow c.args.codec.now.records.own in
    subst own (sym c.row-item.is) (All-get_or own c.args.rows.now c.loop-row.row-index c.row-item.result c.loop-row-test.true c.requires)
