use Rattle.std.proofs.Common.{List, ap, ◌∙◌}
use Rattle.serde_json.specs.View.{members_view}
use Rattle.serde_json.proofs.Views.{view-Object}
use Rattle.row_values.specs.declared.flat_field.FlatField.{FlatField}
use Rattle.row_values.specs.Cells.{cells_view}
use Rattle.row_codec.specs.JsonOutput.{members_with}
use Rattle.row_codec.proofs.JsonLemmas.{members_told}
use Rattle.row_codec.proofs.json_output.row_json.Goals as goal

pub returns : goal.returns
returns c =
    let cells = cells_view c.args.cells.now in
    view-Object c.put_cells.new.members
    ∙ members_told c.args.layout.now c.args.row.now cells (members_view c.new-members.result.entries) (members_view c.put.new.map.entries) (members_view c.put-2.new.map.entries) (members_view c.put_cells.new.members.entries) _ _
    (ap members_view c.new-members.ensures.empty) c.in_ok-seqno.ensures c.in_ok-put.ensures.ok c.in_ok-time.ensures c.in_ok-put-2.ensures.ok
    (c.in_ok-put_cells.ensures ∙ ap (λ (fields : List FlatField). members_with fields cells (members_view c.put-2.new.map.entries)) c.as_slice.ensures)
