use Rattle.std.proofs.Common.{List, Result, Ok, refl, ap, subst, ◌∙◌}
use Rattle.byte_fields.specs.declared.field_error.FieldError.{FieldError}
use Rattle.payload_merge.specs.declared.row.Row.{Row}
use Rattle.row_values.specs.declared.cell_ref.CellRef.{CellRef}
use Rattle.row_values.specs.Cells.{cells_view}
use Rattle.row_records.specs.Readers.{WritesRecord, head_row, place_of}
use Rattle.row_records.proofs.ContentLemmas.{lent_row, same_row}
use Rattle.row_records.proofs.lending.row_in.Goals as goal

pub returns : goal.returns
returns c =
    let layout = c.args.records.now.own in
    let place = c.args.place.now in
    let bytes = c.args.bytes.now in
    let found = c.in_ok-found.ensures in
    let cells = cells_view c.in_ok-found.found.cells.items in
    let told = rw c.in-Some.is at c.own_start.ensures in
    let w = subst (λ (lent : List CellRef). WritesRecord layout (cells_view lent) bytes c.in-Some.start) c.deref.ensures.value told in
    let body = c.row_ref.ensures.body ∙ c.split_at.ensures.back ∙ w.body in
    lent_row layout (place_of place) bytes bytes cells (head_row layout place.t place.partition.now cells c.in_ok-found.found.head) found.cells found.row w.whole refl
    ∙ ap (λ (row : Row). let r : Result Row FieldError = Ok row in r)
    (same_row layout place.t place.partition.now cells c.in_ok-found.found.head c.row_ref.result c.row_ref.ensures.key c.row_ref.ensures.rank c.row_ref.ensures.commit c.row_ref.ensures.seq body)
