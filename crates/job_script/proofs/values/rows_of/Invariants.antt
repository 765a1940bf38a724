use Rattle.std.proofs.Common.{◌≡◌, drop}
use Rattle.serde_json.specs.View.{items_view}
use Rattle.job_script.specs.Script.{rows_of}
use Rattle.job_script.proofs.ScriptParts.{with_rows}
use Rattle.job_script.proofs.values.rows_of.Given as goal

-- the rows so far, and those that the rest are
abbrev pub invariant-loop-value : goal.invariant-loop-value
invariant-loop-value l = with_rows l.rows (rows_of (items_view (drop l.value-index l.values))) ≡ rows_of (items_view l.values)
