use Rattle.std.proofs.Common.{◌≡◌, drop}
use Rattle.serde_json.specs.View.{items_view}
use Rattle.script_jobs.specs.Rows.{are_objects}
use Rattle.script_jobs.proofs.json_rows.are_objects.Given as goal

-- all so far are objects
abbrev pub invariant-loop-row : goal.invariant-loop-row
invariant-loop-row l = are_objects (items_view (drop l.row-index l.rows)) ≡ are_objects (items_view l.rows)
