use Rattle.std.proofs.Common.{All, subst}
use Rattle.std.proofs.lemmas.List.{take_all}
use Rattle.std.proofs.lemmas.List.Elements.{All-more}
use Rattle.plain_rows.specs.OwnRows.{IsOwn}
use Rattle.plain_rows.proofs.own_rows.are_own.Goals as goal

pub loop-row-preserved : goal.loop-row-preserved
loop-row-preserved c =
    let row = c.row-item.result in
    All-more IsOwn c.args.rows.now c.loop-row.row-index row c.loop-row-test.true c.loop-row.invariant (subst IsOwn c.row-item.is c.if-not-is_own.ensures)

pub returns : goal.returns
returns c = subst (All IsOwn) (take_all c.loop-row.row-index c.args.rows.now c.loop-row-test.false) c.loop-row.invariant
