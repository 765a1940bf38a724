-- What a job answers, as its own entries tell it.
use Rattle.std.specs.Prelude.{◌≡◌, List, [], ◌∷◌, Option, Some, None}
use Rattle.table_core.specs.declared.job_reply.JobReply.{JobReply}
use Rattle.table_core.specs.declared.job_reply.JobReply.TheVariants as job
use Rattle.table_history.specs.JobLaw.{Phase, Fresh, Committed, Ended, phase}
use Rattle.table_history.specs.declared.entry.Entry.{Entry}
use Rattle.table_history.specs.declared.reply.Reply.{Reply}
use Rattle.table_history.specs.declared.reply.Reply.TheVariants as reply

-- The answer with which a step's reply ends its job, where it does. What a step finds is at no offset of a file.
abbrev pub ending : Reply → Option JobReply
ending (reply.Completed t) = Some (job.Committed t)
ending (reply.NotCompleted t) = Some (job.NotCompleted t)
ending reply.TimeOver = Some job.TimeOver
ending reply.Fault = Some job.Fault
ending (reply.Damaged name cause) = Some (job.Damaged name cause 0)
ending _ = None

abbrev pub first_of_two : Option JobReply → Option JobReply → Option JobReply
first_of_two None other = other
first_of_two (Some answer) other = Some answer

-- the answer that a job's entries tell, by the last of them that ends the job; none where no step did
abbrev pub told : List Entry → Option JobReply
told [] = None
told (e ∷ es) = first_of_two (ending e.reply) (told es)

-- The answer is the one that is told. Where none is, memory was wanting.
abbrev pub IsTold : Option JobReply → JobReply → Type 0
IsTold (Some answer) given = given ≡ answer
IsTold None given = given ≡ job.Memory

-- A writer has ended where it owes nothing: it made no entry, it is committed, or it left its instant.
abbrev pub EndsAs : Phase → JobReply → Type 0
EndsAs Fresh given = given ≡ job.Memory
EndsAs (Committed t) given = given ≡ job.Committed t
EndsAs Ended (job.Committed t) = ⊥
EndsAs Ended given = Unit {0}
EndsAs _ given = ⊥

-- A writer's answer is told by its entries, and these are its automaton to an end.
pub record IsWriterReply (mine : List Entry) (given : JobReply) : Type 0 where
  pub told : IsTold (told mine) given
  pub ended : EndsAs (phase mine) given
