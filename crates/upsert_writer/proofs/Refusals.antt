-- A batch whose writes are made, or aren't.
use Rattle.std.proofs.Common.{◌≡◌, inl, inr, List, [], Result, Ok, Err, IfOk, refl, sym, subst}
use Rattle.payload_merge.specs.declared.row.Write.{Write}
use Rattle.table_core.specs.declared.job_reply.JobReply.{JobReply}
use Rattle.table_core.specs.declared.job_reply.JobReply.TheVariants as job
use Rattle.table_history.specs.JobLaw.{PlacedEntry, entries_of}
use Rattle.table_history.specs.declared.entry.Entry.{Entry}
use Rattle.upsert_writer.specs.Answers.{AnswersBatch, IsWritten}
use Rattle.upsert_writer.specs.Batches.{Refusal}
use Rattle.upsert_writer.specs.Blocks.{BlockForm}
use Rattle.upsert_writer.specs.Making.{MakesAll}

-- what holds of the writes of a batch, where these are its writes
pub of_made : (P : List Write → Type 0) (made : Result (List Write) Refusal) (batch : List Write) → made ≡ Ok batch → IfOk made P → P batch
of_made P made batch is holds =
    let R : Result (List Write) Refusal → Type 0 = λ r. IfOk r P in
    subst R is holds

pub written : (form : BlockForm) (made : Result (List Write) Refusal) (batch : List Write) (mine : List Entry) (reply : JobReply) → made ≡ Ok batch → IsWritten form batch mine reply → AnswersBatch form made mine reply
written form made batch mine reply is wrote =
    let R : Result (List Write) Refusal → Type 0 = λ r. AnswersBatch form r mine reply in
    subst R (sym is) wrote

wants_memory : (form : BlockForm) (made : Result (List Write) Refusal) → AnswersBatch form made [] job.Memory
wants_memory form (Ok batch) = record { answers = record { told = refl; ended = refl }; wrote = tt }
wants_memory form (Err refusal) = (refl, inr refl)

by_reply : (form : BlockForm) (made : Result (List Write) Refusal) (reply : JobReply) → MakesAll made (Err reply) → AnswersBatch form made [] reply
by_reply form made (job.BadRow place cause) is =
    let R : Result (List Write) Refusal → Type 0 = λ r. AnswersBatch form r [] (job.BadRow place cause) in
    subst R (sym is) (refl, inl refl)
by_reply form made job.Memory is = wants_memory form made
by_reply form made other is = absurd is

-- where they aren't, nothing was done
pub not_made : (form : BlockForm) (made : Result (List Write) Refusal) (mine : List PlacedEntry) (reply : JobReply) → mine ≡ [] → MakesAll made (Err reply) → AnswersBatch form made (entries_of mine) reply
not_made form made mine reply none is =
    let Q : List PlacedEntry → Type 0 = λ es. AnswersBatch form made (entries_of es) reply in
    subst Q (sym none) (by_reply form made reply is)
