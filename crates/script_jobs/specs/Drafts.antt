-- What a line says as the program has it before it takes the line over; for private clauses.
use Rattle.std.specs.Prelude.{ℕ}
use Rattle.serde_json.specs.Data.{Data}
use Rattle.table_props.specs.PropsTexts.{told_of}
use Rattle.script_jobs.specs.declared.draft.Draft.{Draft}
use Rattle.script_jobs.specs.declared.draft.Draft.TheVariants.{Init, Upsert, Delete, Snapshot}
use Rattle.script_jobs.specs.Jobs.{Said, init, upsert, delete, snapshot}
use Rattle.script_jobs.specs.Rows.{rows_in}

abbrev pub said_draft : Data → Draft → Said
said_draft line (Init props) = init (told_of props)
said_draft line Upsert = upsert (rows_in line)
said_draft line (Delete keys) = delete keys
said_draft line (Snapshot at) = snapshot at

-- with its lane
abbrev pub laned : Data → ℕ × Draft → ℕ × Said
laned line job = (job.0, said_draft line job.1)
