use Rattle.std.proofs.Common.{◌≡◌, List, length, None, Result, Ok, Err, sym, ap, subst, ◌∙◌, arith}
use Rattle.std.proofs.lemmas.List.{length-map}
use Rattle.std.proofs.lemmas.Result.{err_from_is_err_and}
use Rattle.byte_fields.specs.declared.field_error.FieldError.{FieldError}
use Rattle.payload_merge.specs.declared.row.Row.{Row}
use Rattle.row_values.specs.declared.cell_ref.CellRef.{CellRef}
use Rattle.row_values.specs.declared.flat_field.FlatField.{FlatField}
use Rattle.row_values.specs.Cells.{AreCells, cell_view, cells_view}
use Rattle.block_contents.specs.Readers.{Fails}
use Rattle.row_records.specs.Records.{cells_at, row_at}
use Rattle.row_records.specs.Readers.{place_of}
use Rattle.row_records.proofs.CellLemmas.{parts_of}
use Rattle.row_records.proofs.ContentLemmas.{no_cells, no_row}
use Rattle.row_records.proofs.reading.found_in.Goals as goal

pub returns-in_err-cells : goal.returns-in_err-cells
returns-in_err-cells c =
    let p = err_from_is_err_and c.from_residual.result c.from_residual.ensures.1 in
    rw (p.1, p.2) (λ written_only. no_cells written_only c.args.records.now.own (place_of c.args.place.now) c.args.bytes.now c.in_err-cells.field-0.0
    (subst (λ (fs : List FlatField). Fails c.in_err-cells.field-0.0 (cells_at fs c.args.bytes.now)) (c.as_slice.ensures ∙ c.args.records.now.whole) c.in_err-cells.ensures))

pub head_at-requires : goal.head_at-requires
head_at-requires c =
    let parts = parts_of c.args.records.now.own.fields (cells_view c.in_ok-cells.cells.items) (subst (λ (fs : List FlatField). AreCells fs (cells_view c.in_ok-cells.cells.items)) (c.as_slice.ensures ∙ c.args.records.now.whole) c.in_ok-cells.ensures.0) in
    omega (arith, parts.long, length-map c.in_ok-cells.cells.items cell_view, ap length c.deref.ensures.value)

pub returns : goal.returns
returns c written_only =
    let read = subst (λ (fs : List FlatField). cells_at fs c.args.bytes.now ≡ Ok (cells_view c.in_ok-cells.cells.items)) (c.as_slice.ensures ∙ c.args.records.now.whole) c.in_ok-cells.ensures.1 in
    let none = subst (λ (cells : List CellRef). row_at c.args.records.now.own (place_of c.args.place.now) (cells_view cells) ≡ None) c.deref.ensures.value c.in-None.ensures in
    no_row written_only c.args.records.now.own (place_of c.args.place.now) c.args.bytes.now (cells_view c.in_ok-cells.cells.items) read none
    ∙ ap (λ (error : FieldError). let r : Result Row FieldError = Err error in r) (sym c.bad.ensures)
