-- What a writer answers for its batch.
use Rattle.std.specs.Prelude.{◌≡◌, ◌⊎◌, List, [], Result, Ok, Err}
use Rattle.payload_merge.specs.declared.row.Write.{Write}
use Rattle.table_core.specs.declared.job_reply.JobReply.{JobReply}
use Rattle.table_core.specs.declared.job_reply.JobReply.TheVariants as job
use Rattle.table_history.specs.declared.entry.Entry.{Entry}
use Rattle.table_jobs.specs.Replies.{IsWriterReply}
use Rattle.upsert_writer.specs.Batches.{Refusal}
use Rattle.upsert_writer.specs.Blocks.{BlockForm}
use Rattle.upsert_writer.specs.WriterSteps.{WritesBatch}

-- the answer is the one that the entries tell, and each of these is a step of the writer of these writes
pub record IsWritten (form : BlockForm) (batch : List Write) (mine : List Entry) (given : JobReply) : Type 0 where
  pub answers : IsWriterReply mine given
  pub wrote : WritesBatch form batch mine

-- Where a row or a key of a batch is refused, nothing was done, and the answer is its place and the cause, or want of
-- memory. Else the batch is written, as far as the entries tell.
abbrev pub AnswersBatch : BlockForm → Result (List Write) Refusal → List Entry → JobReply → Type 0
AnswersBatch form (Ok batch) mine given = IsWritten form batch mine given
AnswersBatch form (Err refusal) mine given =
    (mine ≡ []) × ((given ≡ job.BadRow refusal.place refusal.cause) ⊎ (given ≡ job.Memory))
