use Rattle.std.proofs.Common.{[], length-append, arith}
use Rattle.hudi_base.specs.declared.value.Value.{Null}
use Rattle.byte_fields.specs.Prefixed.{long_bytes}
use Rattle.avro_schema.specs.Written.{written}
use Rattle.avro_value.proofs.Values.{written-Null, written-Union}
use Rattle.row_values.specs.Cells.{cell_view}
use Rattle.row_values.proofs.CellLemmas.{second}
use Rattle.row_records.proofs.LengthLemmas.{branch_form}
use Rattle.row_records.proofs.lengths.field_length.Goals as goal

pub returns-in-Null : goal.returns-in-Null
returns-in-Null c = rw (c.if-not-nullable.false, c.in-Null.is, written-Union 0 Null, written-Null) (omega (arith, branch_form 0 (omega arith), length-append (long_bytes 0) []))

pub returns-in_default : goal.returns-in_default
returns-in_default c =
    rw (c.if-not-nullable.false, second c.args.cell c.in_default.not-Null, written-Union 1 (cell_view c.args.cell))
    (omega (arith, c.cell_length-in_default.ensures.exact, branch_form 1 (omega arith), length-append (long_bytes 1) (written (cell_view c.args.cell))))
