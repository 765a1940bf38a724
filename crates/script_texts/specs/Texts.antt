-- What is printed of a run: a line for each job, and then a line for each entry. This project's own.
use Rattle.std.specs.Prelude.{ℕ, List, [], ◌∷◌, ◌++◌, All, codes, decimal, flat_map, map, Option, Some, None, unwrap_or}
use Rattle.std.specs.Result.{result_ok}
use Rattle.hudi_base.specs.InstantTime.{time_text}
use Rattle.hudi_base.specs.declared.value.Value.{Value}
use Rattle.payload_merge.specs.declared.row.Row.{Row}
use Rattle.serde_json.specs.Data.{Data, array}
use Rattle.serde_json.specs.View.{items_of}
use Rattle.serde_json.specs.Written.{compact_text}
use Rattle.row_values.specs.RowCells.{AreCellsOf, IsOwnRow}
use Rattle.row_values.specs.declared.row_layout.RowLayout.{RowLayout}
use Rattle.row_records.specs.Records.{cells_at}
use Rattle.row_codec.specs.JsonOutput.{row_data}
use Rattle.table_core.specs.declared.job_reply.JobReply.{JobReply}
use Rattle.table_core.specs.declared.job_reply.JobReply.TheVariants as job
use Rattle.table_core.specs.declared.job_reply.RowCause.{RowCause}
use Rattle.table_core.specs.declared.job_reply.RowCause.TheVariants.{Mismatch, NoKey, BadPartition, NoOrdering, TooLarge}
use Rattle.table_history.specs.Histories.{History}
use Rattle.table_history.specs.declared.reply.Cause.{Cause}
use Rattle.table_history.specs.declared.reply.Cause.TheVariants as cause
use Rattle.script_jobs.specs.Jobs.{Said, init, upsert, delete, snapshot}
use Rattle.script_jobs.specs.Scripts.{SaidJob, SaidScript}
use Rattle.script_texts.specs.Marks.{journal_text, line_end}

-- ---- rows

-- the cells of a row, which its body has
abbrev pub cells_of : RowLayout → Row → List Value
cells_of layout row = unwrap_or (result_ok (cells_at layout.fields row.body)) []

-- what is printed of a row of the table are its own cells
abbrev pub OwnRowsHaveTheirCells : Type 0
OwnRowsHaveTheirCells =
    (layout : RowLayout) (row : Row) → IsOwnRow layout row → AreCellsOf layout row (cells_of layout row)

-- a row as a JSON value
abbrev pub row_value : RowLayout → Row → Data
row_value layout row = row_data layout row (cells_of layout row)

-- rows as a JSON array, with no space
unfoldable pub rows_text : RowLayout → List Row → List ℕ
rows_text layout rows = compact_text (array (items_of (map (row_value layout) rows)))

-- ---- answers

abbrev pub time_or_none : Option ℕ → List ℕ
time_or_none None = codes "none"
time_or_none (Some time) = time_text time

abbrev pub cause_text : Cause → List ℕ
cause_text cause.Exists = codes "exists"
cause_text cause.Missing = codes "missing"
cause_text cause.Short = codes "short"
cause_text cause.Log = codes "log"
cause_text cause.Base = codes "base"
cause_text cause.Content = codes "content"

abbrev pub row_cause_text : RowCause → List ℕ
row_cause_text (Mismatch field) = codes "mismatch " ++ decimal field
row_cause_text NoKey = codes "no_key"
row_cause_text BadPartition = codes "bad_partition"
row_cause_text NoOrdering = codes "no_ordering"
row_cause_text TooLarge = codes "too_large"

unfoldable pub answer_text : RowLayout → JobReply → List ℕ
answer_text layout (job.Committed t) = codes "committed " ++ time_text t
answer_text layout (job.BadRow place cause) =
    codes "bad_row " ++ decimal place ++ codes " " ++ row_cause_text cause
answer_text layout (job.Rows time rows) = codes "rows " ++ time_or_none time ++ codes " " ++ rows_text layout rows
answer_text layout (job.NotCompleted t) = codes "not_completed " ++ time_text t
answer_text layout job.TimeOver = codes "time_over"
answer_text layout job.Fault = codes "fault"
answer_text layout (job.Damaged name cause at) =
    codes "damaged " ++ name ++ codes " " ++ cause_text cause ++ codes " " ++ decimal at
answer_text layout job.Memory = codes "memory"

-- the rows of an answer, if it has any, are rows of the table
abbrev pub HasOwnRows : RowLayout → JobReply → Type 0
HasOwnRows layout (job.Rows time rows) = All (IsOwnRow layout) rows
HasOwnRows layout _ = Unit {0}

-- ---- lines

abbrev pub job_name : Said → List ℕ
job_name (init told) = codes "init"
job_name (upsert rows) = codes "upsert"
job_name (delete keys) = codes "delete"
job_name (snapshot at) = codes "snapshot"

-- <line> <job> <answer>
unfoldable pub job_text : RowLayout → SaidJob → JobReply → List ℕ
job_text layout job reply =
    decimal job.line ++ codes " " ++ job_name job.what ++ codes " " ++ answer_text layout reply ++ line_end

abbrev pub jobs_text : RowLayout → List SaidJob → List JobReply → List ℕ
jobs_text layout (job ∷ jobs) (reply ∷ replies) = job_text layout job reply ++ jobs_text layout jobs replies
jobs_text layout _ _ = []

-- the line of the job that made the table
abbrev pub made_text : ℕ → List ℕ
made_text line = decimal line ++ codes " init made" ++ line_end

abbrev pub init_text : Option SaidJob → List ℕ
init_text None = []
init_text (Some job) = made_text job.line

-- the whole text: the jobs in the order of the script, and then the journal
abbrev pub output_text : RowLayout → SaidScript → List JobReply → History → List ℕ
output_text layout script replies H =
    init_text script.init ++ jobs_text layout (flat_map (λ jobs. jobs) script.phases) replies ++ journal_text H
