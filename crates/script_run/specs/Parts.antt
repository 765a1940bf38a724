-- How the parts of a run stand. Only private clauses cite this.
use Rattle.std.specs.Prelude.{◌≡◌, ◌≢◌, ◌⊎◌, ◌≤◌, ◌<◌, ◌+◌, ℕ, true, false, Bool, List, [], ◌∷◌, ◌++◌, flat_map, Some, None, IfSome, IsSomeAnd, Result, Ok, Err, String}
use Rattle.std.specs.FinMap.{empty}
use Rattle.std.specs.List.{AllByRecursion}
use Rattle.std.specs.Str.Lines.{lines}
use Rattle.std.specs.declared.alloc.AllocError.{AllocError}
use Rattle.std.specs.declared.alloc.Global.{Global}
use Rattle.hudi_base.specs.Clock.{ClockState}
use Rattle.hudi_base.specs.Faults.{Rose}
use Rattle.hudi_base.specs.Store.{Fails, StoreState}
use Rattle.hudi_base.specs.Streams.{SinkState, SourceState}
use Rattle.row_values.specs.declared.row_layout.RowLayout.{RowLayout}
use Rattle.row_codec.specs.Codec.{IsOfTable}
use Rattle.script_jobs.specs.Jobs.{init}
use Rattle.script_jobs.specs.Limits.{IsInPhase}
use Rattle.script_jobs.specs.Scripts.{SaidJob, SaidScript, script_of}
use Rattle.script_texts.specs.Texts.{job_text, jobs_text, made_text}
use Rattle.table_core.specs.declared.job_reply.JobReply.{JobReply}
use Rattle.table_history.specs.Histories.{History}
use Rattle.table_open.specs.NewTables.{making}
use Rattle.table_props.specs.PropsTexts.{IsTold, Told as Properties}
use Rattle.table_open.specs.declared.making.OpenError.{OpenError}
use Rattle.table_open.specs.declared.making.OpenError.TheVariants as open_error
use Rattle.script_run.specs.Ends.{IsReadWhole, IsTooLong}
use Rattle.script_run.specs.Outcome.{Ends, HasBegun, HasRun, IsRunSolo, IsWithoutFiles, any_failed, is_failure, jobs_of, table_made}
use Rattle.script_run.specs.Runs.{RanJobs, RanLine, RunTable}
use Rattle.script_run.specs.declared.verdict.Verdict.{Verdict}
use Rattle.script_run.specs.declared.verdict.Verdict.TheVariants.{BadWords, InputFailed, TooLong, BadLine, StoreFailed, TableExists, NoTable, OutOfMemory, Ran, Failed}

-- ---- the script

-- the words are right, the input was read to its end, and this is its script
pub record IsScript (words : List (String Global)) (old new : SourceState) (script : SaidScript) : Type 0 where
  pub right : IsRunSolo words
  pub bytes : List ℕ
  pub whole : IsReadWhole old.left new.left bytes
  pub says : script_of 1 (lines bytes) ≡ Ok script

-- why there is no script
abbrev pub EndsEarly : Verdict → List (String Global) → SourceState → SourceState → Type 0
EndsEarly BadWords words old new = (¬ (IsRunSolo words)) × (new ≡ old)
EndsEarly InputFailed words old new = IsRunSolo words × Rose old.faults new.faults
EndsEarly TooLong words old new = IsRunSolo words × IsTooLong old.left
EndsEarly (BadLine number cause) words old new =
    IsRunSolo words
    × ((bytes : List ℕ) × (IsReadWhole old.left new.left bytes × (script_of 1 (lines bytes) ≡ Err (number, cause))))
EndsEarly (OutOfMemory text) words old new = text ≡ []
EndsEarly _ words old new = ⊥

-- the lines of jobs rise from this number on, and each is within the limits of a script for one lane
abbrev pub AreFrom : ℕ → List SaidJob → Type 0
AreFrom number [] = Unit {0}
AreFrom number (job ∷ jobs) = (number ≤ job.line) × IsInPhase 1 job × AreFrom (job.line + 1) jobs

-- What a script is that was read: the first job makes a table, if there is one, and the lines of the others rise.
pub record IsRead (script : SaidScript) : Type 0 where
  pub makes : IfSome script.init (λ job. (props : Properties) × ((job.what ≡ init props) × IsTold props))
  pub from : AreFrom 1 (jobs_of script)

-- a script whose line with this number makes this table
abbrev pub script_with : ℕ → ℕ → Properties → List (List SaidJob) → SaidScript
script_with line lane props phases = record {
  init = Some (record { line = line; lane = lane; what = init props });
  phases = phases;
}

-- what a run has before its table is made: how its rows are laid out, its jobs, and the line of the making
pub record IsReady (line : ℕ) (props : Properties) (phases : List (List SaidJob)) (own : RowLayout) (all : List SaidJob)
    (out : List ℕ) : Type 0 where
  pub layout : IsOfTable own props
  pub jobs : all ≡ flat_map (λ jobs. jobs) phases
  pub text : out ≡ made_text line

-- ---- the jobs

-- each entry is of a line below this one
abbrev pub AreBelow : ℕ → History → Type 0
AreBelow number H = AllByRecursion (λ e. e.job.line < number) H

-- jobs that may come next: they rise from above the lines of the entries
pub record AreNext (jobs : List SaidJob) (H : History) : Type 0 where
  pub number : ℕ
  pub below : AreBelow number H
  pub from : AreFrom number jobs

-- the line of a job stands behind the text, unless memory was wanting for it
abbrev pub Told : RowLayout → Result Bool AllocError → SaidJob → JobReply → List ℕ → List ℕ → Type 0
Told layout (Ok failed) job reply old new = (failed ≡ is_failure reply) × (new ≡ old ++ job_text layout job reply)
Told layout (Err error) job reply old new = new ≡ old

-- one more job ran
pub record RanNext (table : RunTable) (job : SaidJob) (before after : History) (result : Result Bool AllocError)
    (old new : List ℕ) : Type 0 where
  pub reply : JobReply
  pub ran : RanLine table ⊥ job before after reply
  pub told : Told table.layout result job reply old new

-- these jobs ran, and this is their text, behind the line of the making; of their snapshots it is said what their entries
-- tell
pub record RanSoFar (table : RunTable) (made : List ℕ) (jobs : List SaidJob) (H : History) (text : List ℕ)
    (failed : Bool) : Type 0 where
  pub replies : List JobReply
  pub ran : RanJobs table ⊥ jobs replies [] H
  pub failure : any_failed replies ≡ failed
  pub printed : text ≡ made ++ jobs_text table.layout jobs replies

-- the first of these jobs ran, and the text is the beginning of theirs
pub record StoppedAt (table : RunTable) (made : List ℕ) (jobs : List SaidJob) (H : History) (text : List ℕ)
    : Type 0 where
  pub first : List SaidJob
  pub later : List SaidJob
  pub are : jobs ≡ first ++ later
  pub replies : List JobReply
  pub ran : RanJobs table ⊥ first replies [] H
  pub rest : List ℕ
  pub printed : made ++ jobs_text table.layout first replies ≡ text ++ rest

-- ---- the end

-- why no job runs over a store that was listed
abbrev pub EndsListed : Verdict → StoreState → StoreState → Type 0
EndsListed StoreFailed old new = Rose old.faults new.faults
EndsListed TableExists old new = IfSome old.told.files (λ files. files ≢ empty)
EndsListed (OutOfMemory text) old new = text ≡ []
EndsListed _ old new = ⊥

-- how a run ends whose table isn't made
abbrev pub verdict_of : OpenError → Verdict
verdict_of open_error.Memory = OutOfMemory []
verdict_of open_error.TableExists = TableExists
verdict_of open_error.StoreFault = StoreFailed

-- how a script ends that was read
abbrev pub CameTo : Verdict → SaidScript → Type 0 → StoreState → StoreState → ClockState → ClockState → Type 0
CameTo StoreFailed script honest old new before after =
    Rose old.faults new.faults
    × ((new.told ≡ old.told) ⊎ IsSomeAnd (table_made script) (λ props. Fails honest (making props) old.told new.told))
    × (after ≡ before)
CameTo TableExists script honest old new before after =
    IfSome old.told.files (λ files. files ≢ empty) × (new.told ≡ old.told) × (after ≡ before)
CameTo NoTable script honest old new before after =
    IsWithoutFiles old.told × (table_made script ≡ None) × (new.told ≡ old.told) × (after ≡ before)
CameTo (Ran text) script honest old new before after =
    IsWithoutFiles old.told × HasRun honest script false text old new after
CameTo (Failed text) script honest old new before after =
    IsWithoutFiles old.told × HasRun honest script true text old new after
CameTo (OutOfMemory text) script honest old new before after =
    ((new.told ≡ old.told) × (text ≡ [])) ⊎ (IsWithoutFiles old.told × HasBegun honest script text old new after)
CameTo _ script honest old new before after = ⊥

-- How a run ends whose jobs came to this, with these lines of theirs and these of the entries: the text has both, and
-- where memory was wanting, the first of them.
abbrev pub Prints : Result Bool AllocError → List ℕ → List ℕ → Verdict → Type 0
Prints (Ok failed) lines journal (Ran text) = (failed ≡ false) × (text ≡ lines ++ journal)
Prints (Ok failed) lines journal (Failed text) = (failed ≡ true) × (text ≡ lines ++ journal)
Prints (Ok failed) lines journal (OutOfMemory text) = (rest : List ℕ) × (lines ++ journal ≡ text ++ rest)
Prints (Err error) lines journal (OutOfMemory text) = text ≡ lines
Prints _ lines journal _ = ⊥

-- an end whose text takes memory
abbrev pub TakesMemory : Verdict → Type 0
TakesMemory BadWords = Unit {0}
TakesMemory TooLong = Unit {0}
TakesMemory (BadLine number cause) = Unit {0}
TakesMemory TableExists = Unit {0}
TakesMemory NoTable = Unit {0}
TakesMemory _ = ⊥

-- an end told: this one, or want of memory for its text
abbrev pub Tells : Verdict → ℕ → SinkState → SinkState → Type 0
Tells verdict status old new = Ends verdict status old new ⊎ (TakesMemory verdict × Ends (OutOfMemory []) status old new)
