use Rattle.std.proofs.Common.{arith}
use Rattle.std.proofs.lemmas.Grind.{common_steps}
use Rattle.hudi_base.specs.declared.value.Value.{Null}
use Rattle.avro_value.proofs.Values.{written-Null, written-Union}
use Rattle.row_values.specs.Cells.{cell_view}
use Rattle.row_values.proofs.CellLemmas.{second}
use Rattle.row_values.proofs.cell_ref.put_field.Goals as goal

pub returns-in-Null : goal.returns-in-Null
returns-in-Null c = rw (c.if-not-nullable.false, c.in-Null.is, written-Union 0 Null, written-Null) (grind (arith, common_steps))

pub returns-in_ok-put_zigzag-in_default : goal.returns-in_ok-put_zigzag-in_default
returns-in_ok-put_zigzag-in_default c =
    rw (c.if-not-nullable.false, second c.args.cell c.in_default.not-Null, written-Union 1 (cell_view c.args.cell)) (grind (arith, common_steps))
