use Rattle.std.proofs.Common.{◌≡◌, ◌+◌, ◌<◌, ℕ, List, length, get_or, take, ap, sym, ◌∙◌, arith}
use Rattle.std.specs.List.{flat_map, zip}
use Rattle.std.proofs.lemmas.List.{length-append, length-map, get_or-map}
use Rattle.std.proofs.lemmas.Slice.Zip.{AllZip-long}
use Rattle.row_values.specs.declared.cell_ref.CellRef.{CellRef}
use Rattle.row_values.specs.declared.cell_ref.CellRef.TheVariants as lent
use Rattle.row_values.specs.declared.flat_field.FlatField.{FlatField}
use Rattle.row_values.specs.Cells.{AreCells, IsCell, cell_view, cells_view}
use Rattle.row_values.proofs.CellLemmas.{bytes_more, bytes_whole, field_bytes, written_record}
use Rattle.row_records.proofs.LengthLemmas.{fields_upto}
use Rattle.row_records.proofs.lengths.fields_length.Goals as goal

-- one field more
more_by : (fields : List FlatField) (refs : List CellRef) (i : ℕ) (f : FlatField) → AreCells fields (cells_view refs) → i < length fields → f ≡ get_or fields i f
    → length (flat_map field_bytes (take (i + 1) (zip fields (cells_view refs)))) ≡ length (flat_map field_bytes (take i (zip fields (cells_view refs)))) + length (field_bytes (get_or fields i f, cell_view (get_or refs i lent.Null)))
more_by fields refs i f fit within is =
    let cells = cells_view refs in
    let below : i < length refs = omega (arith, AllZip-long IsCell fields cells fit, length-map refs cell_view) in
    let cell = cell_view (get_or refs i lent.Null) in
    let cell-is : cell ≡ get_or cells i cell = sym (get_or-map cell_view refs i lent.Null cell below) in
    ap length (bytes_more fields cells i f cell fit within is cell-is) ∙ length-append (flat_map field_bytes (take i (zip fields cells))) (field_bytes (f, cell))
    ∙ ap (λ (g : FlatField). length (flat_map field_bytes (take i (zip fields cells))) + length (field_bytes (g, cell))) is

pub bounds-cells-i : goal.bounds-cells-i
bounds-cells-i c = omega (arith, AllZip-long IsCell c.args.fields.now (cells_view c.args.cells.now) c.requires.fit, length-map c.args.cells.now cell_view)

pub overflow_add-sum : goal.overflow_add-sum
overflow_add-sum c =
    let fields = c.args.fields.now in
    let cells = cells_view c.args.cells.now in
    omega (
      arith,
      more_by fields c.args.cells.now c.loop-i.i c.index-fields-i.result c.requires.fit c.loop-i-test.true c.index-fields-i.is,
      c.loop-i.invariant,
      c.field_length-sum.ensures,
      fields_upto (zip fields cells) (c.loop-i.i + 1),
      ap length (written_record fields cells),
      c.requires.few,
    )

pub loop-i-preserved : goal.loop-i-preserved
loop-i-preserved c =
    omega (arith, more_by c.args.fields.now c.args.cells.now c.loop-i.i c.index-fields-i.result c.requires.fit c.loop-i-test.true c.index-fields-i.is, c.loop-i.invariant, c.field_length-sum.ensures)

pub returns : goal.returns
returns c = c.loop-i.invariant ∙ ap length (bytes_whole c.args.fields.now (cells_view c.args.cells.now) c.loop-i.i c.requires.fit c.loop-i-test.false)
