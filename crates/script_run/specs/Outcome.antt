-- How a call of the program ends: which status, which text, and why.
use Rattle.std.specs.Prelude.{◌≡◌, ◌≢◌, ◌⊎◌, ℕ, Bool, true, false, ◌||◌, List, [], ◌∷◌, ◌++◌, flat_map, map, length, codes, decimal, Option, Some, None, option_and_then, IfSome, IsSomeAnd, Result, Ok, Err, String, string_bytes, ◌≤◌}
use Rattle.std.specs.FinMap.{empty}
use Rattle.std.specs.Str.Lines.{lines}
use Rattle.std.specs.declared.alloc.Global.{Global}
use Rattle.hudi_base.specs.Clock.{ClockState}
use Rattle.hudi_base.specs.Faults.{Rose}
use Rattle.hudi_base.specs.Files.{Told}
use Rattle.hudi_base.specs.Store.{Fails, StoreState}
use Rattle.hudi_base.specs.Streams.{SinkState, SourceState}
use Rattle.table_core.specs.declared.job_reply.JobReply.{JobReply}
use Rattle.table_core.specs.declared.job_reply.JobReply.TheVariants.{Fault, Damaged}
use Rattle.table_history.specs.Histories.{History}
use Rattle.table_open.specs.NewTables.{making}
use Rattle.table_props.specs.PropsTexts.{Told as Properties}
use Rattle.row_codec.specs.Codec.{IsOfTable}
use Rattle.script_jobs.specs.Jobs.{Said, init}
use Rattle.script_jobs.specs.Scripts.{SaidJob, SaidScript, most_script_bytes, script_of}
use Rattle.script_jobs.specs.declared.script.LineCause.{LineCause}
use Rattle.script_jobs.specs.declared.script.LineCause.TheVariants.{Json, Object, Field, InitPlace}
use Rattle.script_texts.specs.Marks.{journal_text, line_end}
use Rattle.script_texts.specs.Texts.{init_text, jobs_text, output_text}
use Rattle.script_run.specs.Ends.{IsReadWhole, IsTooLong, Writes, WritesPrefix}
use Rattle.script_run.specs.Runs.{IsRunOf, RunTable, WasHonestFresh}
use Rattle.script_run.specs.declared.verdict.Verdict.{Verdict}
use Rattle.script_run.specs.declared.verdict.Verdict.TheVariants.{BadWords, InputFailed, TooLong, BadLine, StoreFailed, TableExists, NoTable, OutOfMemory, Ran, Failed}

-- ---- words

-- `run 1`: run a script in one lane
abbrev pub IsRunSolo : List (String Global) → Type 0
IsRunSolo words = map string_bytes words ≡ codes "run" ∷ codes "1" ∷ []

-- ---- statuses and texts

-- the status of each end
abbrev pub status_of : Verdict → ℕ
status_of (Ran text) = 0
status_of (Failed text) = 1
status_of BadWords = 2
status_of TooLong = 3
status_of (BadLine number cause) = 3
status_of StoreFailed = 4
status_of InputFailed = 5
status_of (OutOfMemory text) = 8
status_of TableExists = 9
status_of NoTable = 9

-- why a line is none of the language
abbrev pub line_cause_text : LineCause → List ℕ
line_cause_text Json = codes "json"
line_cause_text Object = codes "object"
line_cause_text (Field name) = codes "field " ++ name
line_cause_text InitPlace = codes "init_place"

-- what is written at each end; where memory was wanting, as much of the text as was made
unfoldable pub text_of : Verdict → List ℕ
text_of (Ran text) = text
text_of (Failed text) = text
text_of BadWords = codes "usage: hudi DIR run LANES" ++ line_end
text_of TooLong = codes "bad line 0 too_long" ++ line_end
text_of (BadLine number cause) = codes "bad line " ++ decimal number ++ codes " " ++ line_cause_text cause ++ line_end
text_of StoreFailed = []
text_of InputFailed = []
text_of (OutOfMemory text) = text
text_of TableExists = codes "table exists" ++ line_end
text_of NoTable = codes "no table" ++ line_end

-- a job that failed, or found a file to be damaged
abbrev pub is_failure : JobReply → Bool
is_failure Fault = true
is_failure (Damaged name cause at) = true
is_failure reply = false

abbrev pub any_failed : List JobReply → Bool
any_failed [] = false
any_failed (reply ∷ replies) = is_failure reply || any_failed replies

-- ---- what is seen

-- what is seen of the store, the input and the clock at a moment
pub record Moment : Type 0 where
  pub store : StoreState
  pub input : SourceState
  pub clock : ClockState

abbrev pub moment : StoreState → SourceState → ClockState → Moment
moment store input clock = record { store = store; input = input; clock = clock }

-- the store and the clock weren't called
pub record IsUntouched (old new : Moment) : Type 0 where
  pub store : new.store ≡ old.store
  pub clock : new.clock ≡ old.clock

-- the words are right, the input was read to its end, and what it says as a script has P
abbrev pub Says : List (String Global) → Moment → Moment → (Result SaidScript (ℕ × LineCause) → Type 0) → Type 0
Says words old new P =
    IsRunSolo words × ((bytes : List ℕ) × (IsReadWhole old.input.left new.input.left bytes × P (script_of 1 (lines bytes))))

-- and it is a script that has P
abbrev pub SaysScript : List (String Global) → Moment → Moment → (SaidScript → Type 0) → Type 0
SaysScript words old new P = Says words old new (λ says. (script : SaidScript) × ((says ≡ Ok script) × P script))

-- ---- scripts

-- the properties of the table that a job makes
abbrev pub props_made : Said → Option Properties
props_made (init props) = Some props
props_made _ = None

-- the same of a script; none where its first job makes no table
abbrev pub table_made : SaidScript → Option Properties
table_made script = option_and_then (λ job. props_made job.what) script.init

-- its other jobs, in their order
abbrev pub jobs_of : SaidScript → List SaidJob
jobs_of script = flat_map (λ jobs. jobs) script.phases

-- the table of a run is the one that the script makes
pub record IsMadeBy (script : SaidScript) (table : RunTable) : Type 0 where
  pub props : table_made script ≡ Some table.props
  pub layout : IsOfTable table.layout table.props

-- ---- runs

-- The table was made, and all jobs ran, with this text; whether one of them failed is told by the status.
pub record HasRun (is_honest : Type 0) (script : SaidScript) (failed : Bool) (text : List ℕ)
    (old new : StoreState) (clock : ClockState) : Type 0 where
  pub table : RunTable
  pub made : IsMadeBy script table
  pub history : History
  pub replies : List JobReply
  pub run : IsRunOf table (jobs_of script) history replies is_honest old new clock
  pub failure : any_failed replies ≡ failed
  pub printed : text ≡ output_text table.layout script replies history

-- The table was made and the first jobs ran, and the text is the beginning of theirs: memory was wanting for more.
pub record HasBegun (is_honest : Type 0) (script : SaidScript) (text : List ℕ)
    (old new : StoreState) (clock : ClockState) : Type 0 where
  pub table : RunTable
  pub made : IsMadeBy script table
  pub first : List SaidJob
  pub later : List SaidJob
  pub are : jobs_of script ≡ first ++ later
  pub history : History
  pub replies : List JobReply
  pub run : IsRunOf table first history replies is_honest old new clock
  pub rest : List ℕ
  pub printed : init_text script.init ++ jobs_text table.layout first replies ++ journal_text history ≡ text ++ rest

-- the store and the clock as they were, but for faults
pub record IsUnchanged (old new : Moment) : Type 0 where
  pub told : new.store.told ≡ old.store.told
  pub clock : new.clock ≡ old.clock

-- The same, but that a store which isn't honest may be left otherwise where the making of the table failed.
pub record IsUnmade (script : SaidScript) (honest : Type 0) (old new : Moment) : Type 0 where
  pub told : (new.store.told ≡ old.store.told)
      ⊎ IsSomeAnd (table_made script) (λ props. Fails honest (making props) old.store.told new.store.told)
  pub clock : new.clock ≡ old.clock

-- the store has no file, or doesn't tell its files
abbrev pub IsWithoutFiles : Told → Type 0
IsWithoutFiles told = IfSome told.files (λ files. files ≡ empty)

-- Why a call ends so. The causes are tried in this order: the words, the input, its lines, the store's files, whether the
-- script makes a table, and the making of it. No job runs before all of them; then the jobs run, and their answers decide
-- between the first two statuses.
abbrev pub Means : Verdict → List (String Global) → Type 0 → Moment → Moment → Type 0
Means BadWords words honest old new = (¬ (IsRunSolo words)) × (new ≡ old)
Means InputFailed words honest old new = IsRunSolo words × Rose old.input.faults new.input.faults × IsUntouched old new
Means TooLong words honest old new = IsRunSolo words × IsTooLong old.input.left × IsUntouched old new
Means (BadLine number cause) words honest old new =
    Says words old new (λ says. says ≡ Err (number, cause)) × IsUntouched old new
Means StoreFailed words honest old new =
    SaysScript words old new (λ script. Rose old.store.faults new.store.faults × IsUnmade script honest old new)
Means TableExists words honest old new =
    SaysScript words old new (λ script. IfSome old.store.told.files (λ files. files ≢ empty) × IsUnchanged old new)
Means NoTable words honest old new =
    SaysScript words old new (λ script.
    IsWithoutFiles old.store.told × (table_made script ≡ None) × IsUnchanged old new)
Means (Ran text) words honest old new =
    SaysScript words old new (λ script.
    IsWithoutFiles old.store.told × HasRun honest script false text old.store new.store new.clock)
Means (Failed text) words honest old new =
    SaysScript words old new (λ script.
    IsWithoutFiles old.store.told × HasRun honest script true text old.store new.store new.clock)
Means (OutOfMemory text) words honest old new =
    ((new.store.told ≡ old.store.told) × (text ≡ []))
    ⊎ SaysScript words old new (λ script.
    IsWithoutFiles old.store.told × HasBegun honest script text old.store new.store new.clock)

-- What is written and answered at an end: its text and its status, or a prefix of the text and status 6, where the
-- output failed.
abbrev pub Ends : Verdict → ℕ → SinkState → SinkState → Type 0
Ends verdict status old new =
    ((status ≡ status_of verdict) × Writes old.written new.written (text_of verdict))
    ⊎ ((status ≡ 6) × WritesPrefix old new (text_of verdict))

-- Nothing stands in the way: the words are right, the input has a script that makes a table, the store is honest and tells
-- that it has no file and all that it did, and no count of faults rose.
pub record IsSmooth (words : List (String Global)) (is_honest : Type 0) (old new : Moment) (output_old output_new : SinkState)
    : Type 0 where
  pub right : IsRunSolo words
  pub bytes : List ℕ
  pub left : old.input.left ≡ Some bytes
  pub few : length bytes ≤ most_script_bytes
  pub script : SaidScript
  pub says : script_of 1 (lines bytes) ≡ Ok script
  pub makes : table_made script ≢ None
  pub fresh : WasHonestFresh is_honest old.store.told
  pub store : ¬ (Rose old.store.faults new.store.faults)
  pub input : ¬ (Rose old.input.faults new.input.faults)
  pub output : ¬ (Rose output_old.faults output_new.faults)
