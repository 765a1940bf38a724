-- The row that a value of the table's schema makes.
use Rattle.std.specs.Prelude.{List, [], map, Result}
use Rattle.avro_schema.specs.Written.{written}
use Rattle.hudi_base.specs.declared.value.Pair.{Pair}
use Rattle.hudi_base.specs.declared.value.Value.{Value, out-Value}
use Rattle.hudi_base.specs.declared.value.Value.TheOpen.{Value-F}
use Rattle.payload_merge.specs.declared.row.Row.{Row}
use Rattle.row_records.specs.Records.{cell_in}
use Rattle.row_values.specs.RowCells.{rank_in, text_at}
use Rattle.row_values.specs.declared.row_layout.RowLayout.{RowLayout}
use Rattle.table_core.specs.declared.job_reply.RowCause.{RowCause}
use Rattle.table_jobs.specs.NewRows.{row_of_parts}

-- the cells of a record
abbrev pub record_cells : Value-F Value Pair → List Value
record_cells (Value-F.Record values) = map cell_in values
record_cells _ = []

abbrev pub cells_in : Value → List Value
cells_in v = record_cells (out-Value v)

-- the row of the key, the partition and the rank in a record, whose written form is the body, or the first refusal
abbrev pub row_in : RowLayout → Value → Result Row RowCause
row_in layout v =
    row_of_parts (text_at layout.key (cells_in v)) (text_at layout.partition (cells_in v)) (rank_in layout.ordering (cells_in v))
    (written v)
