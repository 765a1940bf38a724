use Rattle.std.proofs.Common.{ℕ, []}
use Rattle.avro_schema.specs.Reading.{fields_from}
use Rattle.row_values.specs.Fields.{typed_fields}
use Rattle.row_values.specs.Cells.{cells_view}
use Rattle.row_bodies.proofs.ReadingLemmas.{ReadSoFar}
use Rattle.row_bodies.proofs.cells.cells_at.Given as goal

-- the cells so far, and those of the fields that are left
abbrev pub invariant-loop-field : goal.invariant-loop-field
invariant-loop-field l = (left : ℕ) → ReadSoFar l.fields left (fields_from (typed_fields l.fields) [] left l.bytes) l.field-index (cells_view l.cells.items) l.rest
