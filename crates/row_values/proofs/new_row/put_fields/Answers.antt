use Rattle.std.proofs.Common.{◌≡◌, ◌<◌, ◌++◌, List, ℕ, length, get_or, take, ap, sym, ◌∙◌, append_assoc, arith}
use Rattle.std.specs.List.{flat_map, zip}
use Rattle.std.proofs.lemmas.List.{length-map, get_or-map}
use Rattle.std.proofs.lemmas.Slice.Zip.{AllZip-long}
use Rattle.row_values.specs.declared.cell_ref.CellRef.TheVariants as lent
use Rattle.row_values.specs.declared.flat_field.FlatField.{FlatField}
use Rattle.row_values.specs.Cells.{IsCell, cell_view, cells_view}
use Rattle.row_values.proofs.CellLemmas.{bytes_more, bytes_whole, field_bytes}
use Rattle.row_values.proofs.new_row.put_fields.Goals as goal

pub bounds-cells-i : goal.bounds-cells-i
bounds-cells-i c = omega (arith, AllZip-long IsCell c.args.fields.now (cells_view c.args.cells.now) c.requires, length-map c.args.cells.now cell_view)

pub loop-i-preserved : goal.loop-i-preserved
loop-i-preserved c =
    let fields = c.args.fields.now in
    let cells = cells_view c.args.cells.now in
    let before = flat_map field_bytes (take c.loop-i.i (zip fields cells)) in
    let below : c.loop-i.i < length c.args.cells.now = omega (arith, AllZip-long IsCell fields cells c.requires, length-map c.args.cells.now cell_view) in
    let cell = cell_view (get_or c.args.cells.now c.loop-i.i lent.Null) in
    let cell-is : cell ≡ get_or cells c.loop-i.i cell = sym (get_or-map cell_view c.args.cells.now c.loop-i.i lent.Null cell below) in
    let more = bytes_more fields cells c.loop-i.i c.index-fields-i.result cell c.requires c.loop-i-test.true c.index-fields-i.is cell-is in
    let one = ap (λ (g : FlatField). field_bytes (g, cell)) c.index-fields-i.is in
    let bytes = field_bytes (get_or fields c.loop-i.i c.index-fields-i.result, cell) in
    c.in_ok-put_field.ensures
    ∙ ap (λ (bs : List ℕ). bs ++ bytes) c.loop-i.invariant
    ∙ append_assoc c.args.out.now.items before bytes
    ∙ ap (λ (bs : List ℕ). c.args.out.now.items ++ bs) (ap (λ (bs : List ℕ). before ++ bs) (sym one) ∙ sym more)

pub returns : goal.returns
returns c = c.loop-i.invariant ∙ ap (λ (bs : List ℕ). c.args.out.now.items ++ bs) (bytes_whole c.args.fields.now (cells_view c.args.cells.now) c.loop-i.i c.requires c.loop-i-test.false)
