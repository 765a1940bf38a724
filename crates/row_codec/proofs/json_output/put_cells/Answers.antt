use Rattle.std.proofs.Common.{◌≡◌, ◌<◌, ◌+◌, List, ℕ, length, get_or, drop, sym, ap, ◌∙◌, arith}
use Rattle.std.proofs.lemmas.List.{length-map, get_or-map}
use Rattle.std.proofs.lemmas.Slice.Zip.{AllZip-long}
use Rattle.serde_json.specs.View.{members_view, view}
use Rattle.serde_json.specs.Data.{Data, put}
use Rattle.row_values.specs.declared.flat_field.FlatField.{FlatField}
use Rattle.row_values.specs.declared.cell_ref.CellRef.TheVariants as lent
use Rattle.row_values.specs.Cells.{IsCell, cell_view, cells_view}
use Rattle.row_codec.specs.JsonOutput.{cell_data, members_with}
use Rattle.row_codec.proofs.JsonLemmas.{members_end, members_more}
use Rattle.row_codec.proofs.json_output.put_cells.Goals as goal

pub bounds-cells-i : goal.bounds-cells-i
bounds-cells-i c = omega (arith, AllZip-long IsCell c.args.fields.now (cells_view c.args.cells.now) c.requires, length-map c.args.cells.now cell_view)

pub loop-i-preserved : goal.loop-i-preserved
loop-i-preserved c =
    let fields = c.args.fields.now in
    let cells = cells_view c.args.cells.now in
    let below : c.loop-i.i < length c.args.cells.now = omega (arith, AllZip-long IsCell fields cells c.requires, length-map c.args.cells.now cell_view) in
    let within : c.loop-i.i < length cells = omega (arith, length-map c.args.cells.now cell_view) in
    let cell = cell_view (get_or c.args.cells.now c.loop-i.i lent.Null) in
    let cell-is : cell ≡ get_or cells c.loop-i.i cell = sym (get_or-map cell_view c.args.cells.now c.loop-i.i lent.Null cell below) in
    let field = c.index-fields-i.result in
    let members = members_view c.loop-i.members.entries in
    let added : members_view c.put.new.map.entries ≡ put field.name (cell_data cell) members =
    c.in_ok-put.ensures.ok ∙ ap (λ (name : List ℕ). put name (view c.in_ok-json.json) members) (c.as_str.ensures ∙ ap (λ (f : FlatField). f.name) (sym c.index-fields-i.is)) ∙ ap (λ (d : Data). put field.name d members) c.in_ok-json.ensures in
    ap (members_with (drop (c.loop-i.i + 1) fields) (drop (c.loop-i.i + 1) cells)) added
    ∙ sym (members_more fields cells c.loop-i.i field cell members c.loop-i-test.true within c.index-fields-i.is cell-is)
    ∙ c.loop-i.invariant

pub returns : goal.returns
returns c = sym (members_end c.args.fields.now (cells_view c.args.cells.now) c.loop-i.i (members_view c.loop-i.members.entries) c.loop-i-test.false) ∙ c.loop-i.invariant
