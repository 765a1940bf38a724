use Rattle.std.proofs.Common.{All, subst, arith}
use Rattle.std.proofs.lemmas.Grind.{common_steps}
use Rattle.std.proofs.lemmas.List.{take_all}
use Rattle.std.proofs.lemmas.List.Elements.{All-more}
use Rattle.row_records.specs.Readers.{IsWritten}
use Rattle.row_records.proofs.writing.put_rows.Goals as goal

pub loop-row-preserved : goal.loop-row-preserved
loop-row-preserved c = record {
  bytes = grind (arith, common_steps);
  known = All-more (IsWritten c.args.file_id.now) c.args.rows.now c.loop-row.row-index c.row-item.result c.loop-row-test.true c.loop-row.invariant.known (rw (← c.row-item.is) c.in_ok-put_row.ensures.known);
}

pub returns-clause-known : goal.returns-clause-known
returns-clause-known c = subst (All (IsWritten c.args.file_id.now)) (take_all c.loop-row.row-index c.args.rows.now c.loop-row-test.false) c.loop-row.invariant.known
