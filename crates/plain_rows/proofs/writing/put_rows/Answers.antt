use Rattle.std.proofs.Common.{arith}
use Rattle.std.proofs.lemmas.Grind.{common_steps}
use Rattle.std.proofs.lemmas.List.Elements.{All-more}
use Rattle.plain_rows.specs.Readers.{IsInRange}
use Rattle.plain_rows.proofs.writing.put_rows.Goals as goal

pub loop-row-preserved : goal.loop-row-preserved
loop-row-preserved c = record {
  bytes = grind (arith, common_steps);
  range = All-more IsInRange c.args.rows.now c.loop-row.row-index c.row-item.result c.loop-row-test.true c.loop-row.invariant.range (rw (← c.row-item.is) c.in_ok-put_row.ensures.range);
}
