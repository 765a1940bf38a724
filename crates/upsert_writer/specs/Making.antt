-- Writes of a batch as they are made. Only private clauses cite this.
use Rattle.std.specs.Prelude.{◌≡◌, ◌<◌, ◌^◌, ◌⊎◌, ℕ, List, length, All, Result, Ok, Err}
use Rattle.payload_merge.specs.declared.row.Row.{Row}
use Rattle.payload_merge.specs.declared.row.Write.{Write}
use Rattle.payload_merge.specs.declared.row.Write.TheVariants.{Put, Del}
use Rattle.payload_merge.specs.declared.row_error.RowError.{RowError}
use Rattle.payload_merge.specs.declared.row_error.RowError.TheVariants as error
use Rattle.table_core.specs.declared.job_reply.JobReply.{JobReply}
use Rattle.table_core.specs.declared.job_reply.JobReply.TheVariants as job
use Rattle.table_core.specs.declared.job_reply.RowCause.{RowCause}
use Rattle.table_core.specs.declared.job_reply.RowCause.TheVariants.{NoKey, BadPartition, NoOrdering, TooLarge}
use Rattle.table_forms.specs.NameForms.{IsPartitionPath}
use Rattle.table_jobs.specs.NewRows.{IsNewRow}
use Rattle.upsert_writer.specs.Batches.{Refusal}
use Rattle.upsert_writer.specs.declared.making.Stop.{Stop}
use Rattle.upsert_writer.specs.declared.making.Stop.TheVariants.{Memory, Refused}

-- why a codec makes no row
abbrev pub stop_of : RowError → Stop
stop_of error.NoKey = Refused NoKey
stop_of error.BadPartition = Refused BadPartition
stop_of error.NoOrdering = Refused NoOrdering
stop_of error.TooLarge = Refused TooLarge
stop_of _ = Memory

-- the answer where the write at a place of the batch isn't made
abbrev pub reply_of : ℕ → Stop → JobReply
reply_of place Memory = job.Memory
reply_of place (Refused cause) = job.BadRow place cause

-- a write that is made, or why there is none; memory may be wanting
abbrev pub Makes : {A : Type 0} → Result A RowCause → Result A Stop → Type 0
Makes made (Ok x) = made ≡ Ok x
Makes made (Err (Refused cause)) = made ≡ Err cause
Makes made (Err Memory) = Unit {0}

-- the same of all writes of a batch
abbrev pub MakesAll : Result (List Write) Refusal → Result (List Write) JobReply → Type 0
MakesAll made (Ok batch) = made ≡ Ok batch
MakesAll made (Err (job.BadRow place cause)) = made ≡ Err (record { place = place; cause = cause })
MakesAll made (Err job.Memory) = Unit {0}
MakesAll made (Err _) = ⊥

-- a put of a row that any instant can write
abbrev pub IsNewPut : (Row → Type 0) → Write → Type 0
IsNewPut Own (Put row) = IsNewRow Own row
IsNewPut Own (Del partition key rank) = ⊥

-- a delete in a partition, whose key's length fits four bytes
abbrev pub IsNewDelete : Write → Type 0
IsNewDelete (Del partition key rank) = IsPartitionPath partition × (length key < 2 ^ 32)
IsNewDelete (Put row) = ⊥

-- writes of a batch that can be written: they can be counted, and are puts of new rows or deletes
pub record CanBeWritten (Own : Row → Type 0) (batch : List Write) : Type 0 where
  pub counted : length batch < 2 ^ 32
  pub one_kind : All (IsNewPut Own) batch ⊎ All IsNewDelete batch
