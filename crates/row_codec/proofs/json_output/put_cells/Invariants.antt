use Rattle.std.proofs.Common.{◌≡◌, drop}
use Rattle.serde_json.specs.View.{members_view}
use Rattle.row_values.specs.Cells.{cells_view}
use Rattle.row_codec.specs.JsonOutput.{members_with}
use Rattle.row_codec.proofs.json_output.put_cells.Given as goal

-- the members so far, and those of the fields that are left
abbrev pub invariant-loop-i : goal.invariant-loop-i
invariant-loop-i l =
    members_with (drop l.i l.fields) (drop l.i (cells_view l.cells)) (members_view l.members.entries) ≡ members_with l.fields (cells_view l.cells) (members_view l.fn.members.entries)
