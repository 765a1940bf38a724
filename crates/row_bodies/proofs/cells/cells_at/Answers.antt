use Rattle.std.proofs.Common.{◌≡◌, ◌+◌, [], ◌∷◌, ◌++◌, sym, subst, ap, ◌∙◌, arith}
use Rattle.std.proofs.lemmas.Grind.{common_steps}
use Rattle.std.proofs.lemmas.List.{map-append}
use Rattle.avro_schema.specs.Reading.{fields_from}
use Rattle.row_values.specs.Fields.{typed_fields}
use Rattle.row_values.specs.Cells.{cell_view, cells_view}
use Rattle.row_bodies.proofs.ReadingLemmas.{ReadSoFar, reads_more, reads_end}
use Rattle.row_bodies.proofs.cells.cells_at.Goals as goal

pub loop-field-preserved : goal.loop-field-preserved
loop-field-preserved c left =
    let fields = c.args.fields.now in
    let total = fields_from (typed_fields fields) [] left c.args.bytes.now in
    let told = c.in_ok-cell.ensures left in
    let more = reads_more fields left total c.loop-field.field-index (cells_view c.loop-field.cells.items) c.loop-field.rest.now c.field-item.result (cell_view c.in_ok-cell.cell) c.in_ok-cell.after.now
    c.loop-field-test.true c.field-item.is told.0 told.1 (c.loop-field.invariant left) in
    let pushed : c.push.new.self.items ≡ c.loop-field.cells.items ++ c.in_ok-cell.cell ∷ [] = grind (arith, common_steps) in
    let split = map-append cell_view c.loop-field.cells.items (c.in_ok-cell.cell ∷ []) in
    subst (λ cells. ReadSoFar fields left total (c.loop-field.field-index + 1) cells c.in_ok-cell.after.now) (sym (ap cells_view pushed ∙ split)) more

pub returns : goal.returns
returns c left =
    let fields = c.args.fields.now in
    reads_end fields left (fields_from (typed_fields fields) [] left c.args.bytes.now) c.loop-field.field-index (cells_view c.loop-field.cells.items) c.loop-field.rest.now c.loop-field-test.false (c.loop-field.invariant left)
