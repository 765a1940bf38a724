-- What the jobs of every script are within.
use Rattle.std.specs.Prelude.{◌≡◌, ℕ, ◌≤◌, max, List, IsTrue, length, IfSome, Ok, All}
use Rattle.table_props.specs.PropsTexts.{IsTold}
use Rattle.script_jobs.specs.Jobs.{Said, init, upsert, delete, snapshot}
use Rattle.script_jobs.specs.Rows.{are_rows, is_item_count}
use Rattle.script_jobs.specs.Scripts.{SaidJob, SaidScript, script_of}

-- a job that makes a table, whose properties are those of one
abbrev pub MakesTable : Said → Type 0
MakesTable (init told) = IsTold told
MakesTable _ = ⊥

-- another job: as many rows or keys as there may be, and the rows are objects
abbrev pub IsOther : Said → Type 0
IsOther (init told) = ⊥
IsOther (upsert rows) = IsTrue (are_rows rows)
IsOther (delete keys) = IsTrue (is_item_count (length keys))
IsOther (snapshot at) = Unit {0}

-- in one of so many lanes, of which there is always the first
pub record IsInPhase (lanes : ℕ) (job : SaidJob) : Type 0 where
  pub lane_from : 1 ≤ job.lane
  pub lane_to : job.lane ≤ max 1 lanes
  pub other : IsOther job.what

pub record IsWithin (lanes : ℕ) (script : SaidScript) : Type 0 where
  pub init : IfSome script.init (λ job. MakesTable job.what)
  pub phases : All (λ jobs. All (IsInPhase lanes) jobs) script.phases

abbrev pub ScriptsAreWithin : Type 0
ScriptsAreWithin =
    (lanes : ℕ) (lines : List (List ℕ)) (script : SaidScript) → script_of lanes lines ≡ Ok script → IsWithin lanes script
