-- What a run of a script is, for its jobs in one lane.
use Rattle.std.specs.Prelude.{◌≡◌, ◌⊎◌, ℕ, ◌+◌, true, List, [], ◌∷◌, ◌++◌, take, length, IsOkAnd, Result, Some}
use Rattle.std.specs.FinMap.{empty}
use Rattle.std.specs.List.{AllByRecursion}
use Rattle.hudi_base.specs.Clock.{ClockState}
use Rattle.hudi_base.specs.Files.{FileMap, IsImage, Told}
use Rattle.hudi_base.specs.Store.{StoreState}
use Rattle.hudi_base.specs.declared.operation.Operation.{Operation}
use Rattle.payload_merge.specs.declared.row.Write.{Write}
use Rattle.row_values.specs.declared.row_layout.RowLayout.{RowLayout}
use Rattle.script_jobs.specs.Jobs.{Said, init, upsert, delete, snapshot}
use Rattle.script_jobs.specs.Scripts.{SaidJob}
use Rattle.table_answers.specs.InTurn.{IsMadeBy}
use Rattle.table_answers.specs.InstantWrites.{WritesGroups, writes_of}
use Rattle.table_answers.specs.Snapshots.{AnswersSnapshot}
use Rattle.table_board.specs.Boards.{DrawnTimes, FaultsCounted}
use Rattle.table_board.specs.HonestRuns.{IsUndamaged, StandsThroughout}
use Rattle.table_board.specs.KnownEntries.{known_entries}
use Rattle.table_core.specs.declared.job_reply.JobReply.{JobReply}
use Rattle.table_core.specs.declared.job_reply.JobReply.TheVariants.{Committed, Damaged}
use Rattle.table_history.specs.Answers.{is_completed}
use Rattle.table_history.specs.Histories.{History}
use Rattle.table_history.specs.JobLaw.{IsLegal}
use Rattle.table_history.specs.Tables.{Table, fresh}
use Rattle.table_open.specs.NewTables.{IsFreshTable, IsHonestFresh, making}
use Rattle.table_props.specs.PropsTexts.{Told as Properties}
use Rattle.table_history.specs.declared.entry.Entry.{Entry}
use Rattle.table_history.specs.declared.job.Job.{Job}
use Rattle.upsert_writer.specs.Batches.{Refusal}
use Rattle.script_run.specs.Batches.{any_batch}
use Rattle.script_run.specs.Lines.{AnswersLine, batch_of, blocks_of}

-- ---- a job

-- the job of a line
abbrev pub job_of : SaidJob → Job
job_of job = record { lane = job.lane; line = job.line }

-- A table that a run makes: its properties, and how its rows are laid out.
pub record RunTable : Type 0 where
  pub props : Properties
  pub layout : RowLayout

-- the table as it was made, without instants
abbrev pub table_at_first : RunTable → Table
table_at_first table = fresh table.props

-- The instant is completed, no row or key of the batch was refused, and its writes are those of the batch: for each file
-- group that one of them lies in, those that lie there, in their order, with the instant and their places.
pub record IsCommitted (table : RunTable) (H : History) (t : ℕ) (batch : Result (List Write) Refusal) : Type 0 where
  pub completed : is_completed (table_at_first table) H t ≡ true
  pub wrote : IsOkAnd batch (λ writes.
      WritesGroups writes t (table_at_first table) (writes_of (blocks_of table.layout) (table_at_first table) H t))

-- what a write that is committed comes to
abbrev pub ComesToBatch : RunTable → Result (List Write) Refusal → History → JobReply → Type 0
ComesToBatch table batch after (Committed t) = IsCommitted table after t batch
ComesToBatch table batch after reply = Unit {0}

-- What an answer comes to in the table: an upsert or a delete that is committed wrote the rows or the keys of its line, and
-- a snapshot is that of the instants which were completed when it began, up to the one that it names.
abbrev pub ComesTo : RunTable → Said → History → History → JobReply → Type 0
ComesTo table (init props) before after reply = ⊥
ComesTo table (upsert rows) before after reply = ComesToBatch table (batch_of table.layout (upsert rows)) after reply
ComesTo table (delete keys) before after reply = ComesToBatch table (batch_of table.layout (delete keys)) after reply
ComesTo table (snapshot at) before after reply =
    AnswersSnapshot (blocks_of table.layout) (table_at_first table) before at reply

-- The job of a line made these entries, and its answer is the one that they tell, of a query also by the bytes that it
-- read. Where the store is honest and stood, it comes to what it has to.
pub record RanLine (table : RunTable) (Stood : Type 0) (job : SaidJob) (before after : History) (reply : JobReply)
    : Type 0 where
  pub mine : List Entry
  pub made : IsMadeBy (job_of job) before after mine
  pub answers : AnswersLine table.layout job.what mine reply
  pub comes : Stood → ComesTo table job.what before after reply

-- The jobs of a script, one after another, each with its reply.
abbrev pub RanJobs : RunTable → Type 0 → List SaidJob → List JobReply → History → History → Type 0
RanJobs table Stood [] [] before after = after ≡ before
RanJobs table Stood (job ∷ jobs) (reply ∷ replies) before after =
    (between : History) × RanLine table Stood job before between reply × RanJobs table Stood jobs replies between after
RanJobs table Stood _ _ before after = ⊥

-- ---- the store

-- it is so for some files and operations
abbrev pub WasHonestFresh : Type 0 → Told → Type 0
WasHonestFresh is_honest told = (start : FileMap) × ((before : List Operation) × IsHonestFresh is_honest told start before)

abbrev pub IsUndamagedAnswer : JobReply → Type 0
IsUndamagedAnswer (Damaged name cause at) = ⊥
IsUndamagedAnswer reply = Unit {0}

-- What holds of a run over such a store: nothing is damaged, its entries are legal to the byte, the operations since the
-- beginning are the making of the table and then those of the entries in order, and every image that a stop leaves of
-- them has no file, or stands.
pub record IsTrueRun (props : Properties) (start : FileMap) (before now : List Operation) (H : History)
    (replies : List JobReply) : Type 0 where
  pub undamaged : AllByRecursion IsUndamaged H
  pub answers : AllByRecursion IsUndamagedAnswer replies
  pub legal : IsLegal any_batch (fresh props) H
  pub made : take (length before + 1) now ≡ before ++ making props ∷ []
  pub first_images : (image : FileMap) → IsImage start now (length before) image
      → (image ≡ empty) ⊎ IsFreshTable image props
  pub images : StandsThroughout any_batch (fresh props) start (length before + 1) now H

-- ---- a run

-- A run of these jobs, on a table that it made: from what is seen of the store before it to what is seen then, with
-- this clock at its end.
pub record IsRunOf (table : RunTable) (jobs : List SaidJob) (H : History) (replies : List JobReply)
    (is_honest : Type 0) (old new : StoreState) (clock : ClockState) : Type 0 where
  pub ran : RanJobs table (WasHonestFresh is_honest old.told) jobs replies [] H
  pub legal : IsLegal any_batch (table_at_first table) (known_entries (table_at_first table) H)
  pub drawn : DrawnTimes (table_at_first table) clock.most H
  pub faults : FaultsCounted old.faults H new.faults
  pub on_honest : (start : FileMap) (before : List Operation) → IsHonestFresh is_honest old.told start before
      → (now : List Operation) × ((new.told.operations ≡ Some now) × IsTrueRun table.props start before now H replies)
