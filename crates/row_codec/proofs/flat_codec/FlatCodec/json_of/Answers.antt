use Rattle.std.proofs.Common.{List, ap, ◌∙◌}
use Rattle.serde_json.specs.View.{view}
use Rattle.row_values.specs.declared.cell_ref.CellRef.{CellRef}
use Rattle.row_values.specs.Cells.{cells_view}
use Rattle.row_codec.specs.JsonOutput.{row_data}
use Rattle.row_codec.proofs.JsonLemmas.{text_told}
use Rattle.row_columns.proofs.OwnLemmas.{one_list}
use Rattle.row_codec.proofs.flat_codec.FlatCodec.json_of.Goals as goal

pub returns-clause-text : goal.returns-clause-text
returns-clause-text c cells are =
    let layout = c.args.self.now.records.own in
    let row = c.args.row.now in
    let same = one_list layout row (cells_view c.in_ok-cells.cells.items) cells c.in_ok-cells.ensures are in
    let told = c.in_ok-json.ensures ∙ ap (λ (lent : List CellRef). row_data layout row (cells_view lent)) c.deref.ensures.value ∙ ap (row_data layout row) same in
    c.from_vec.ensures ∙ text_told layout row cells (view c.in_ok-json.json) c.in_ok-to_vec.field-0.items told c.in_ok-to_vec.ensures.text
