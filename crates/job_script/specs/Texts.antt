-- What is printed of a run: a line for each job, and then a line for each entry.
use Rattle.std.specs.Prelude.{ℕ, List, [], ◌∷◌, ◌++◌, codes, decimal, map, if◌then◌else◌, Option, Some, None}
use Rattle.std.specs.Str.{is_utf8}
use Rattle.hudi_base.specs.InstantTime.{time_text}
use Rattle.payload_merge.specs.declared.row.Row.{Row}
use Rattle.serde_json.specs.Data.{Data, number, string, array, object, no_members, member}
use Rattle.serde_json.specs.Find.{of_integer}
use Rattle.serde_json.specs.View.{items_of}
use Rattle.serde_json.specs.Written.{compact_text}
use Rattle.table_core.specs.declared.job_reply.JobReply.{JobReply}
use Rattle.table_core.specs.declared.job_reply.JobReply.TheVariants as job
use Rattle.table_core.specs.declared.job_reply.RowCause.{RowCause}
use Rattle.table_core.specs.declared.job_reply.RowCause.TheVariants.{Mismatch, NoKey, BadPartition, NoOrdering, TooLarge}
use Rattle.table_history.specs.Histories.{History}
use Rattle.table_history.specs.declared.reply.Cause.{Cause}
use Rattle.table_history.specs.declared.reply.Cause.TheVariants as cause
use Rattle.job_script.specs.Marks.{journal_text, line_end}
use Rattle.job_script.specs.declared.script.Line.{Line}
use Rattle.job_script.specs.declared.script.Line.TheVariants.{Upsert, Snapshot}
use Rattle.job_script.specs.declared.script.ScriptJob.{ScriptJob}

-- ---- rows

-- where a row was written: its commit and its place in it
abbrev pub seqno : Row → List ℕ
seqno row = time_text row.commit ++ codes "_0_" ++ decimal row.seq

-- bytes as a text: those that are none are shown as an empty one
unfoldable pub shown : List ℕ → List ℕ
shown bytes = if is_utf8 bytes then bytes else []

-- a row as a JSON value
abbrev pub row_data : Row → Data
row_data row =
    object (member (codes "_hoodie_commit_seqno") (string (seqno row))
    (member (codes "_hoodie_commit_time") (string (time_text row.commit))
    (member (codes "body") (string (shown row.body))
    (member (codes "key") (string (shown row.key))
    (member (codes "rank") (number (of_integer row.rank)) no_members)))))

-- rows as a JSON array, with no space
unfoldable pub rows_text : List Row → List ℕ
rows_text rows = compact_text (array (items_of (map row_data rows)))

-- ---- answers

abbrev pub time_or_none : Option ℕ → List ℕ
time_or_none None = codes "none"
time_or_none (Some time) = time_text time

abbrev pub cause_text : Cause → List ℕ
cause_text cause.Exists = codes "exists"
cause_text cause.Missing = codes "missing"
cause_text cause.Short = codes "short"
cause_text cause.Log = codes "log"
cause_text cause.Base = codes "base"
cause_text cause.Content = codes "content"

abbrev pub row_cause_text : RowCause → List ℕ
row_cause_text (Mismatch field) = codes "mismatch " ++ decimal field
row_cause_text NoKey = codes "no_key"
row_cause_text BadPartition = codes "bad_partition"
row_cause_text NoOrdering = codes "no_ordering"
row_cause_text TooLarge = codes "too_large"

unfoldable pub answer_text : JobReply → List ℕ
answer_text (job.Committed t) = codes "committed " ++ time_text t
answer_text (job.BadRow place cause) = codes "bad_row " ++ decimal place ++ codes " " ++ row_cause_text cause
answer_text (job.Rows time rows) = codes "rows " ++ time_or_none time ++ codes " " ++ rows_text rows
answer_text (job.NotCompleted t) = codes "not_completed " ++ time_text t
answer_text job.TimeOver = codes "time_over"
answer_text job.Fault = codes "fault"
answer_text (job.Damaged name cause at) =
    codes "damaged " ++ name ++ codes " " ++ cause_text cause ++ codes " " ++ decimal at
answer_text job.Memory = codes "memory"

-- ---- lines

abbrev pub name_of_line : Line → List ℕ
name_of_line (Upsert rows) = codes "upsert"
name_of_line Snapshot = codes "snapshot"

-- <line> <job> <answer>
unfoldable pub job_text : ScriptJob → JobReply → List ℕ
job_text job reply =
    decimal job.number ++ codes " " ++ name_of_line job.line ++ codes " " ++ answer_text reply ++ line_end

abbrev pub jobs_text : List ScriptJob → List JobReply → List ℕ
jobs_text (job ∷ jobs) (reply ∷ replies) = job_text job reply ++ jobs_text jobs replies
jobs_text _ _ = []

-- the whole text
abbrev pub output_text : List ScriptJob → List JobReply → History → List ℕ
output_text jobs replies H = jobs_text jobs replies ++ journal_text H
