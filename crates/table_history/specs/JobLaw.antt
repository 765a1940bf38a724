-- The law of jobs: which entries a writer and a query may have. A job's phase is read off its own entries.
use Rattle.std.specs.Prelude.{◌≡◌, ◌++◌, ℕ, ◌+◌, ◌-◌, ◌==◌, min, if◌then◌else◌, List, [], ◌∷◌, length, slice_get, Some, None, IsSomeAnd}
use Rattle.std.specs.List.{All}
use Rattle.hudi_base.specs.declared.file_group.Target.{Target}
use Rattle.table_forms.specs.NameForms.{IsPartitionPath}
use Rattle.table_history.specs.Answers.{IsNext, max_piece}
use Rattle.table_history.specs.Histories.{History, own}
use Rattle.table_history.specs.Pins.{files_of_view}
use Rattle.table_history.specs.Tables.{Table}
use Rattle.table_history.specs.declared.entry.Entry.{Entry}
use Rattle.table_history.specs.declared.job.Job.{Job}
use Rattle.table_history.specs.declared.reply.Reply.{Reply}
use Rattle.table_history.specs.declared.reply.Reply.TheVariants as reply
use Rattle.table_history.specs.declared.step.PartitionSlots.{PartitionSlots}
use Rattle.table_history.specs.declared.step.Reader.{Reader}
use Rattle.table_history.specs.declared.step.Reader.TheVariants as reader
use Rattle.table_history.specs.declared.step.Step.{Step}
use Rattle.table_history.specs.declared.step.Step.TheVariants.{Begin, Enter, Append, Finish, Pin, Unpin, Read, Abandon}
use Rattle.table_history.specs.declared.view.Part.{Part}

-- What jobs write, as a relation that is handed in: which slots a job's batch has, and which bytes, with how many writes,
-- are the block of its instant for a target. A codec's meaning fills it.
pub record Work : Type 1 where
  pub Asks : Job → List PartitionSlots → Type 0
  pub Holds : Job → ℕ → Target → ℕ → List ℕ → Type 0

-- how far a job is
pub data Phase : Type 0 where
  Fresh : Phase
  -- a writer that drew a time, and one that has targets, of which so many have their blocks
  Drawn : (t : ℕ) → Phase
  Writes : (t : ℕ) → (targets : List Target) → (placed : ℕ) → Phase
  Committed : (t : ℕ) → Phase
  -- a writer that still has to leave its instant
  Owes : (t : ℕ) → Phase
  -- a query with files to read, by number and length: so much of the first one is read
  Reads : (pin : ℕ) → (files : List (ℕ × ℕ)) → (at : ℕ) → Phase
  -- a query that still has to let its pin go
  Leaves : (pin : ℕ) → Phase
  Ended : Phase

-- the files that aren't empty, with their numbers
abbrev pub files_to_read : ℕ → List Part → List (ℕ × ℕ)
files_to_read number [] = []
files_to_read number (part ∷ more) = if part.length == 0 then files_to_read (number + 1) more else (number, part.length) ∷ files_to_read (number + 1) more

abbrev pub after_piece : ℕ → List (ℕ × ℕ) → ℕ → Phase
after_piece pin [] at = Reads pin [] 0
after_piece pin (file ∷ more) at = if at == file.1 then Reads pin more 0 else Reads pin (file ∷ more) at

-- how far it is after one more entry
abbrev pub next_phase : Phase → Step → Reply → Phase
next_phase Fresh Begin (reply.Began t) = Drawn t
next_phase Fresh (Pin at bases_only) (reply.Pinned view) = Reads view.pin (files_to_read 0 (files_of_view view)) 0
next_phase Fresh _ _ = Ended
next_phase (Drawn t) (Enter u slots) (reply.Entered targets) = Writes t targets 0
next_phase (Drawn t) (Abandon u) _ = Ended
next_phase (Drawn t) _ _ = Owes t
next_phase (Writes t targets placed) (Append u target writes bytes) (reply.Placed version at) = Writes t targets (placed + 1)
next_phase (Writes t targets placed) (Finish u checkpoint) (reply.Completed v) = Committed v
next_phase (Writes t targets placed) (Abandon u) _ = Ended
next_phase (Writes t targets placed) _ _ = Owes t
next_phase (Committed t) _ _ = Ended
next_phase (Owes t) _ _ = Ended
next_phase (Reads pin files at) (Read from file before len) (reply.Piece bytes) = after_piece pin files (at + len)
next_phase (Reads pin files at) (Unpin p) _ = Ended
next_phase (Reads pin files at) _ _ = Leaves pin
next_phase (Leaves pin) _ _ = Ended
next_phase Ended _ _ = Ended

abbrev pub phase : List Entry → Phase
phase [] = Fresh
phase (e ∷ es) = next_phase (phase es) e.step e.reply

-- the next piece that a query reads: as long as the limit and the file allow
abbrev pub IsNextPiece : ℕ → List (ℕ × ℕ) → ℕ → Reader → ℕ → ℕ → ℕ → Type 0
IsNextPiece pin [] at from number offset len = ⊥
IsNextPiece pin (file ∷ more) at from number offset len =
    (from ≡ reader.Pin pin) × (number ≡ file.0) × (offset ≡ at) × (len ≡ min max_piece (file.1 - at))

-- Which step may come at a phase. As want of memory leaves no entry, a writer may leave its instant and a query its pin at
-- any time.
abbrev pub Allows : Work → Job → Phase → Step → Type 0
Allows work job Fresh Begin = Unit {0}
Allows work job Fresh (Pin at bases_only) = Unit {0}
Allows work job (Drawn t) (Enter u slots) = (u ≡ t) × All (λ asked. IsPartitionPath asked.partition) slots × work.Asks job slots
Allows work job (Drawn t) (Abandon u) = u ≡ t
Allows work job (Writes t targets placed) (Append u target writes bytes) =
    (u ≡ t) × (target ≡ placed) × IsSomeAnd (slice_get targets placed) (λ s. work.Holds job t s writes bytes)
Allows work job (Writes t targets placed) (Finish u checkpoint) = (u ≡ t) × (placed ≡ length targets)
Allows work job (Writes t targets placed) (Abandon u) = u ≡ t
Allows work job (Owes t) (Abandon u) = u ≡ t
Allows work job (Reads pin files at) (Read from number offset len) = IsNextPiece pin files at from number offset len
Allows work job (Reads pin files at) (Unpin p) = p ≡ pin
Allows work job (Leaves pin) (Unpin p) = p ≡ pin
Allows work job _ _ = ⊥

-- Every reply is the machine's, and every job's entries are by its law.
abbrev pub IsLegal : Work → Table → History → Type 0
IsLegal work A [] = Unit {0}
IsLegal work A (e ∷ H) = IsLegal work A H × IsNext A H e × Allows work e.job (phase (own e.job H)) e.step

-- ---- what `Steps` says

-- the replies that a step may have for its job
abbrev pub IsReplyOf : Step → Reply → Type 0
IsReplyOf Begin (reply.Began t) = Unit {0}
IsReplyOf Begin reply.TimeOver = Unit {0}
IsReplyOf (Enter t slots) (reply.Entered targets) = Unit {0}
IsReplyOf (Append t target writes bytes) (reply.Placed version at) = Unit {0}
IsReplyOf (Append t target writes bytes) (reply.Damaged name cause) = ⊥
IsReplyOf (Finish t checkpoint) (reply.Completed u) = u ≡ t
IsReplyOf (Pin at bases_only) (reply.Pinned view) = Unit {0}
IsReplyOf (Pin None bases_only) (reply.NotCompleted t) = ⊥
IsReplyOf (Pin (Some t) bases_only) (reply.NotCompleted u) = u ≡ t
IsReplyOf (Pin at bases_only) reply.Memory = Unit {0}
IsReplyOf (Pin at bases_only) _ = ⊥
IsReplyOf (Unpin pin) reply.Done = Unit {0}
IsReplyOf (Unpin pin) _ = ⊥
IsReplyOf (Read from file at len) (reply.Piece bytes) = length bytes ≡ len
IsReplyOf (Abandon t) reply.Done = Unit {0}
IsReplyOf (Abandon t) _ = ⊥
IsReplyOf _ reply.Fault = Unit {0}
IsReplyOf _ (reply.Damaged name cause) = Unit {0}
IsReplyOf _ reply.Memory = Unit {0}
IsReplyOf _ _ = ⊥

-- the second list goes on from the first, the last entry first
pub record GoesOn (old new : List Entry) : Type 0 where
  pub more : List Entry
  pub is : new ≡ more ++ old

-- the last entry is this one, unless it answers Memory
abbrev pub EndsWith : Job → Step → Reply → List Entry → Type 0
EndsWith job step reply.Memory seen = Unit {0}
EndsWith job step r seen = (rest : List Entry) × (seen ≡ record { job = job; step = step; reply = r } ∷ rest)

-- an entry of a job, with its place in the history, from 0
pub record PlacedEntry : Type 0 where
  pub place : ℕ
  pub entry : Entry

abbrev pub entries_of : List PlacedEntry → List Entry
entries_of [] = []
entries_of (placed ∷ more) = placed.entry ∷ entries_of more

-- the job's entries after one more, which is the last of those that were seen, unless it answers Memory
abbrev pub with_entry : Job → Step → Reply → List Entry → List PlacedEntry → List PlacedEntry
with_entry job step reply.Memory seen mine = mine
with_entry job step r seen mine = record { place = length seen - 1; entry = record { job = job; step = step; reply = r } } ∷ mine
