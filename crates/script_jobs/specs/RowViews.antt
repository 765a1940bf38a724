-- The rows of an upsert as JSON.
use Rattle.serde_json.specs.Data.{Items}
use Rattle.serde_json.specs.View.{view}
use Rattle.script_jobs.specs.declared.json_rows.JsonRows.{JsonRows}
use Rattle.script_jobs.specs.Rows.{rows_in}

abbrev pub rows_view : JsonRows → Items
rows_view rows = rows_in (view rows.line)
