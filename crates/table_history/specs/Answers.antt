-- The machine: when a job may ask for a step, and which reply the step may have after a history. One definition a step.
use Rattle.std.specs.Prelude.{◌≡◌, ◌<◌, ◌≤◌, ℕ, Bool, true, false, ◌+◌, ◌==◌, IsTrue, List, length, take, drop, Option, Some, None, IsSomeAnd, IfSome}
use Rattle.std.specs.List.{list_any, All}
use Rattle.hudi_base.specs.InstantTime.{last_time}
use Rattle.file_names.specs.declared.file_name.State.TheVariants as state
use Rattle.table_forms.specs.NameForms.{IsPartitionPath}
use Rattle.table_history.specs.Histories.{History}
use Rattle.table_history.specs.Instants.{instant_of, completed_instants}
use Rattle.table_history.specs.Logs.{target_at, version_in_use, known_length, bytes_of}
use Rattle.table_history.specs.Pins.{pin_of, part_at, IsView}
use Rattle.table_history.specs.Tables.{Table, Instant}
use Rattle.table_history.specs.Targets.{AreTargets}
use Rattle.table_history.specs.Times.{greatest_time}
use Rattle.table_history.specs.declared.entry.Entry.{Entry}
use Rattle.table_history.specs.declared.job.Job.{Job}
use Rattle.table_history.specs.declared.reply.Cause.TheVariants.{Exists, Missing, Short}
use Rattle.table_history.specs.declared.reply.Reply.{Reply}
use Rattle.table_history.specs.declared.reply.Reply.TheVariants as reply
use Rattle.table_history.specs.declared.step.PartitionSlots.{PartitionSlots}
use Rattle.table_history.specs.declared.step.Reader.{Reader}
use Rattle.table_history.specs.declared.step.Reader.TheVariants as reader
use Rattle.table_history.specs.declared.step.Step.{Step}
use Rattle.table_history.specs.declared.step.Step.TheVariants.{Begin, Enter, Append, Finish, Pin, Unpin, Read, Abandon}
use Rattle.table_history.specs.declared.view.Part.{Part}

-- ---- conditions

-- the most that one Read may ask for
abbrev pub max_piece : ℕ
max_piece = 16_777_216

-- the job's own instant, of which this holds
abbrev pub Owns : Table → History → Job → ℕ → (Instant → Type 0) → Type 0
Owns A H job t P = IsSomeAnd (instant_of A H t) (λ i. (i.owner ≡ Some job) × P i)

-- each target has a block
abbrev pub AllPlaced : Instant → Type 0
AllPlaced i = (k : ℕ) → k < length i.targets → IsTrue (list_any (λ b. b.target == k) i.blocks)

-- a piece of a file
pub record IsPieceOf (part : Part) (at len : ℕ) : Type 0 where
  pub some : 1 ≤ len
  pub few : len ≤ max_piece
  pub within : at + len ≤ part.length

-- When a job may ask for a step. An instant that is completed has no owner, so an owned one is pending.
abbrev pub May : Table → History → Job → Step → Type 0
May A H job Begin = Unit {0}
May A H job (Enter t slots) = Owns A H job t (λ i. i.state ≡ state.Requested) × All (λ asked. IsPartitionPath asked.partition) slots
May A H job (Append t target writes bytes) = Owns A H job t (λ i. (i.state ≡ state.Inflight) × (target < length i.targets))
May A H job (Finish t checkpoint) = Owns A H job t (λ i. (i.state ≡ state.Inflight) × AllPlaced i)
May A H job (Pin at bases_only) = Unit {0}
May A H job (Unpin pin) = IsSomeAnd (pin_of H pin) (λ live. live.job ≡ job)
May A H job (Read (reader.Pin pin) file at len) =
    IsSomeAnd (pin_of H pin) (λ live. (live.job ≡ job) × IsSomeAnd (part_at live.view file) (λ part. IsPieceOf part at len))
May A H job (Abandon t) = Owns A H job t (λ i. Unit {0})

-- ---- replies

-- above every time that the timeline has or had
abbrev pub BeginAnswers : Table → History → Reply → Type 0
BeginAnswers A H (reply.Began t) = greatest_time A H < t
BeginAnswers A H reply.TimeOver = greatest_time A H ≡ last_time
BeginAnswers A H reply.Fault = Unit {0}
BeginAnswers A H (reply.Damaged name cause) = cause ≡ Exists
BeginAnswers A H _ = ⊥

-- the groups of the slots, each with its current slice
abbrev pub EnterAnswers : Table → List PartitionSlots → Reply → Type 0
EnterAnswers A slots (reply.Entered targets) = AreTargets A slots targets
EnterAnswers A slots reply.Fault = Unit {0}
EnterAnswers A slots (reply.Damaged name cause) = cause ≡ Exists
EnterAnswers A slots _ = ⊥

-- in the version in use of the slice, at its known length
abbrev pub AppendAnswers : Table → History → ℕ → ℕ → Reply → Type 0
AppendAnswers A H t target (reply.Placed version at) =
    IfSome (target_at A H t target) (λ s. (version ≡ version_in_use A H s) × (at ≡ known_length A H s version))
AppendAnswers A H t target reply.Fault = Unit {0}
AppendAnswers A H t target _ = ⊥

abbrev pub FinishAnswers : ℕ → Reply → Type 0
FinishAnswers t (reply.Completed u) = u ≡ t
FinishAnswers t reply.Fault = Unit {0}
FinishAnswers t (reply.Damaged name cause) = cause ≡ Exists
FinishAnswers t _ = ⊥

abbrev pub is_completed : Table → History → ℕ → Bool
is_completed A H t = list_any (λ u. u == t) (completed_instants A H)

-- where no instant is named, the latest; a named one has to be completed
abbrev pub PinAnswers : Table → History → Option ℕ → Bool → Reply → Type 0
PinAnswers A H None bases_only (reply.Pinned view) = IsView A H None bases_only view
PinAnswers A H (Some t) bases_only (reply.Pinned view) = IsView A H (Some t) bases_only view × (is_completed A H t ≡ true)
PinAnswers A H (Some t) bases_only (reply.NotCompleted u) = (u ≡ t) × (is_completed A H t ≡ false)
PinAnswers A H at bases_only _ = ⊥

-- the bytes of the file there
abbrev pub ReadAnswers : Table → History → Reader → ℕ → ℕ → ℕ → Reply → Type 0
ReadAnswers A H (reader.Pin pin) file at len (reply.Piece bytes) =
    IfSome (pin_of H pin) (λ live. IfSome (part_at live.view file) (λ part. bytes ≡ take len (drop at (bytes_of A H part.name))))
ReadAnswers A H from file at len reply.Fault = Unit {0}
ReadAnswers A H from file at len (reply.Damaged name Missing) = Unit {0}
ReadAnswers A H from file at len (reply.Damaged name Short) = Unit {0}
ReadAnswers A H from file at len _ = ⊥

abbrev pub DoneAnswers : Reply → Type 0
DoneAnswers reply.Done = Unit {0}
DoneAnswers _ = ⊥

-- Fault and Damaged are free here: when they come is said of the step that does the operation.
abbrev pub Answers : Table → History → Step → Reply → Type 0
Answers A H Begin r = BeginAnswers A H r
Answers A H (Enter t slots) r = EnterAnswers A slots r
Answers A H (Append t target writes bytes) r = AppendAnswers A H t target r
Answers A H (Finish t checkpoint) r = FinishAnswers t r
Answers A H (Pin at bases_only) r = PinAnswers A H at bases_only r
Answers A H (Unpin pin) r = DoneAnswers r
Answers A H (Read from file at len) r = ReadAnswers A H from file at len r
Answers A H (Abandon t) r = DoneAnswers r

-- the entry may come next
pub record IsNext (A : Table) (H : History) (e : Entry) : Type 0 where
  pub may : May A H e.job e.step
  pub answers : Answers A H e.step e.reply
