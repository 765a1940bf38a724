-- Scripts: lines, each of which is a job. This project's own.
use Rattle.std.specs.Prelude.{◌≡◌, ℕ, ◌+◌, ◌==◌, ◌&&◌, Bool, if◌then◌else◌, List, [], ◌∷◌, ◌++◌, length, map, Option, Some, None, is_none, option_map, Result, Ok, Err}
use Rattle.serde_json.specs.Data.{Data}
use Rattle.table_forms.specs.JsonObjects.{json_of}
use Rattle.table_props.specs.PropsTexts.{told_of}
use Rattle.script_jobs.specs.declared.script.What.{What}
use Rattle.script_jobs.specs.declared.script.What.TheVariants.{Init, Upsert, Delete, Snapshot}
use Rattle.script_jobs.specs.declared.script.Job.{Job}
use Rattle.script_jobs.specs.declared.script.Phase.{Phase}
use Rattle.script_jobs.specs.declared.script.Script.{Script}
use Rattle.script_jobs.specs.declared.script.LineCause.{LineCause}
use Rattle.script_jobs.specs.declared.script.LineCause.TheVariants.{Json, InitPlace}
use Rattle.script_jobs.specs.declared.script.LineError.{LineError}
use Rattle.script_jobs.specs.declared.script.LineError.TheVariants.{Memory, BadLine}
use Rattle.script_jobs.specs.Causes.{◌>>=◌}
use Rattle.script_jobs.specs.RowViews.{rows_view}
use Rattle.script_jobs.specs.Jobs.{Said, init, upsert, delete, snapshot, job_of}

-- ---- what scripts say

-- a job: the number of its line, its lane, and what it says
pub record SaidJob : Type 0 where
  pub line : ℕ
  pub lane : ℕ
  pub what : Said

-- a script: the job that makes the table, if there is one, and the jobs of each phase
pub record SaidScript : Type 0 where
  pub init : Option SaidJob
  pub phases : List (List SaidJob)

-- the same of what the program holds
abbrev pub said : What → Said
said (Init props) = init (told_of props)
said (Upsert rows) = upsert (rows_view rows)
said (Delete keys) = delete keys
said (Snapshot at) = snapshot at

abbrev pub said_job : Job → SaidJob
said_job job = record { line = job.line; lane = job.lane; what = said job.what }

abbrev pub said_phase : Phase → List SaidJob
said_phase phase = map said_job phase.jobs

abbrev pub said_script : Script → SaidScript
said_script script = record { init = option_map said_job script.init; phases = map said_phase script.phases }

-- ---- lines

abbrev pub most_script_bytes : ℕ
most_script_bytes = 67_108_864

-- the job of JSON, which has this line
abbrev pub numbered : ℕ → ℕ × Said → SaidJob
numbered number job = record { line = number; lane = job.0; what = job.1 }

abbrev pub job_of_json : ℕ → ℕ → Option Data → Result SaidJob LineCause
job_of_json lanes number None = Err Json
job_of_json lanes number (Some d) = job_of lanes d >>= λ job. Ok (numbered number job)

-- the job of a line, or why it is none
unfoldable pub job_in : ℕ → ℕ → List ℕ → Result SaidJob LineCause
job_in lanes number line = job_of_json lanes number (json_of line)

-- ---- a script

-- the jobs of the lines so far
pub record Begun : Type 0 where
  pub init : Option SaidJob
  pub jobs : List SaidJob

abbrev pub nothing : Begun
nothing = record { init = None; jobs = [] }

abbrev pub is_nothing : Begun → Bool
is_nothing begun = is_none begun.init && (length begun.jobs == 0)

-- One job more. An `init` is the first job.
abbrev pub with_said : Begun → SaidJob → Said → Result Begun LineCause
with_said begun job (init told) = if is_nothing begun then Ok (record { init = Some job; jobs = [] }) else Err InitPlace
with_said begun job _ = Ok (record { init = begun.init; jobs = begun.jobs ++ job ∷ [] })

abbrev pub with_job : Begun → SaidJob → Result Begun LineCause
with_job begun job = with_said begun job job.what

-- a line more
unfoldable pub with_line : ℕ → ℕ → Begun → List ℕ → Result Begun LineCause
with_line lanes number begun line = job_in lanes number line >>= with_job begun

-- what a line more leads to; where the line is none of the language, it is its number and the cause
abbrev pub led : ℕ → Result Begun LineCause → (Begun → Result Begun (ℕ × LineCause)) → Result Begun (ℕ × LineCause)
led number (Ok begun) next = next begun
led number (Err cause) next = Err (number, cause)

-- The jobs of the lines so far and of those that follow, the first of which has this number; or the first line outside
-- the language, and why. Empty lines count and are passed over.
unfoldable pub jobs_from : ℕ → ℕ → Begun → List (List ℕ) → Result Begun (ℕ × LineCause)
jobs_from lanes number begun [] = Ok begun
jobs_from lanes number begun (line ∷ more) =
    if length line == 0 then jobs_from lanes (number + 1) begun more
    else led number (with_line lanes number begun line) (λ next. jobs_from lanes (number + 1) next more)

-- all jobs but the one that makes the table are one phase
abbrev pub whole : Begun → SaidScript
whole begun = record { init = begun.init; phases = begun.jobs ∷ [] }

abbrev pub whole_of : Result Begun (ℕ × LineCause) → Result SaidScript (ℕ × LineCause)
whole_of (Ok begun) = Ok (whole begun)
whole_of (Err bad) = Err bad

-- the script that lines are
abbrev pub script_of : ℕ → List (List ℕ) → Result SaidScript (ℕ × LineCause)
script_of lanes lines = whole_of (jobs_from lanes 1 nothing lines)

-- ---- readers

-- reading gave this script, or the number of this line and its cause, unless memory ran out
abbrev pub Reads : Result Script LineError → Result SaidScript (ℕ × LineCause) → Type 0
Reads (Ok script) means = means ≡ Ok (said_script script)
Reads (Err Memory) means = Unit {0}
Reads (Err (BadLine number cause)) means = means ≡ Err (number, cause)

-- the same of the job of one line, and of one job more
abbrev pub ReadsJob : ℕ → Result Job LineError → Result SaidJob LineCause → Type 0
ReadsJob number (Ok job) means = means ≡ Ok (said_job job)
ReadsJob number (Err Memory) means = Unit {0}
ReadsJob number (Err (BadLine n cause)) means = (n ≡ number) × (means ≡ Err cause)
