-- Runs: the entries of a history, each with what it did to the files of a store. As in a history, the last one stands
-- first.
use Rattle.std.specs.Prelude.{◌≡◌, ℕ, ◌<◌, ◌+◌, ◌^◌, List, [], ◌∷◌, ◌++◌, take, Option, Some, None, IfSome}
use Rattle.std.specs.FinMap.{get}
use Rattle.hudi_base.specs.Files.{FileMap, changed}
use Rattle.hudi_base.specs.InstantTime.{IsTime}
use Rattle.hudi_base.specs.declared.file_group.Target.{Target}
use Rattle.hudi_base.specs.declared.operation.Operation.{Operation}
use Rattle.hudi_base.specs.declared.operation.Operation.TheVariants.{Create, Append, Remove}
use Rattle.file_names.specs.FileName.{IsNamed}
use Rattle.file_names.specs.declared.file_name.FileName.{FileName}
use Rattle.table_history.specs.Answers.{IsNext}
use Rattle.table_history.specs.Histories.{History, own}
use Rattle.table_history.specs.JobLaw.{Work, Allows, phase}
use Rattle.table_history.specs.Logs.{target_at, version_in_use, attempt_in_use, log_file}
use Rattle.table_history.specs.Metadata.{writes_of}
use Rattle.table_history.specs.Operations.{operation}
use Rattle.table_history.specs.Tables.{Table}
use Rattle.table_history.specs.declared.entry.Entry.{Entry}
use Rattle.table_history.specs.declared.operation.Op.{Op}
use Rattle.table_history.specs.declared.operation.Op.TheVariants as op
use Rattle.table_history.specs.declared.reply.Reply.{Reply}
use Rattle.table_history.specs.declared.reply.Reply.TheVariants as reply
use Rattle.table_history.specs.declared.step.Step.{Step}
use Rattle.table_history.specs.declared.step.Step.TheVariants as step

-- ---- what an entry did

-- an entry, and the operation that it did, if it did one
pub record Happened : Type 0 where
  pub entry : Entry
  pub did : Option Operation

-- the operation of a step, done whole; a read changes nothing
abbrev pub whole : Op → Option Operation
whole op.Nothing = None
whole (op.Create name bytes) = Some (Create name bytes)
whole (op.Append name bytes) = Some (Append name bytes)
whole (op.Remove name) = Some (Remove name)
whole (op.Read name at len) = None

-- what an operation that failed did: nothing, or of an append a prefix of its bytes
abbrev pub IsPartial : Op → Option Operation → Type 0
IsPartial _ None = Unit {0}
IsPartial (op.Append name bytes) (Some did) = (n : ℕ) × (did ≡ Append name (take n bytes))
IsPartial _ (Some did) = ⊥

-- what a step did that had this operation to do, by its reply
abbrev pub Did : Op → Reply → Option Operation → Type 0
Did asked reply.Fault did = IsPartial asked did
Did asked (reply.Damaged name cause) did = did ≡ None
Did asked _ did = did ≡ whole asked

-- the log that the next append to a slice goes to
abbrev pub log_in_use : Table → History → Target → FileName
log_in_use A H s = log_file A s (version_in_use A H s) (attempt_in_use A H s)

-- The names that an entry makes have a form: a drawn time is one that an instant may have, and the numbers in the name
-- of a log fit.
abbrev pub NamesFit : Table → History → Step → Reply → Type 0
NamesFit A H step.Begin (reply.Began t) = IsTime t
NamesFit A H (step.Append t target writes bytes) r = IfSome (target_at A H t target) (λ s. IsNamed (log_in_use A H s))
NamesFit A H _ r = Unit {0}

-- The numbers in metadata fit: the writes of a target have 32 bits, and a checkpoint has 64.
abbrev pub NumbersFit : Table → History → Step → Type 0
NumbersFit A H (step.Append t target writes bytes) = writes_of A H t target + writes < 2 ^ 32
NumbersFit A H (step.Finish t checkpoint) = IfSome checkpoint (λ n. n < 2 ^ 64)
NumbersFit A H _ = Unit {0}

-- An entry may come next: the reply is the machine's, the step is by its job's law, the names have a form, and the
-- numbers fit.
pub record MayCome (work : Work) (A : Table) (H : History) (e : Entry) : Type 0 where
  pub next : IsNext A H e
  pub allowed : Allows work e.job (phase (own e.job H)) e.step
  pub names : NamesFit A H e.step e.reply
  pub numbers : NumbersFit A H e.step

-- and did what its step and its reply say
pub record MayHappen (work : Work) (A : Table) (H : History) (h : Happened) : Type 0 where
  pub comes : MayCome work A H h.entry
  pub did : Did (operation A H h.entry.step h.entry.reply) h.entry.reply h.did

-- the entry as it is answered where its operation failed
abbrev pub failing : Entry → Entry
failing e = record e { reply = reply.Fault }

-- ---- runs

-- what happened, the last entry first
abbrev pub Run : Type 0
Run = List Happened

-- its entries
abbrev pub history_of : Run → History
history_of [] = []
history_of (h ∷ R) = h.entry ∷ history_of R

-- the operations of one entry: one or none
abbrev pub done : Option Operation → List Operation
done None = []
done (Some operation) = operation ∷ []

-- the operations of a run, in the order in which they were done
abbrev pub operations_of : Run → List Operation
operations_of [] = []
operations_of (h ∷ R) = operations_of R ++ done h.did

-- the files after what an entry did, and after a run
abbrev pub changed_by : FileMap → Option Operation → FileMap
changed_by files None = files
changed_by files (Some operation) = changed files operation

abbrev pub files_after : FileMap → Run → FileMap
files_after files [] = files
files_after files (h ∷ R) = changed_by (files_after files R) h.did

-- what an honest store tells of what it did: a file that was made was absent, and one that was removed was there
abbrev pub IsPossible : FileMap → Option Operation → Type 0
IsPossible files None = Unit {0}
IsPossible files (Some (Create name bytes)) = get files name ≡ None
IsPossible files (Some (Append name bytes)) = Unit {0}
IsPossible files (Some (Remove name)) = (bytes : List ℕ) × (get files name ≡ Some bytes)

-- a run on a table whose files were these
abbrev pub IsRun : Work → Table → FileMap → Run → Type 0
IsRun work A files [] = Unit {0}
IsRun work A files (h ∷ R) =
    IsRun work A files R × MayHappen work A (history_of R) h × IsPossible (files_after files R) h.did
