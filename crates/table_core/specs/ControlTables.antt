-- When control tables are those of a table after a history, and when there is room in them for one entry more.
use Rattle.std.specs.Prelude.{◌≡◌, ◌<◌, ◌+◌, ◌^◌, ℕ, Bool, true, false, Option, Some, None, IsSome, IfSome, List, [], ◌∷◌, length, reverse, unwrap_or, slice_get, vec_len, vec_capacity}
use Rattle.std.specs.Ordering.{nat_cmp}
use Rattle.hudi_base.specs.declared.file_group.Target.{Target}
use Rattle.key_index.specs.Tiling.{IsBuckets}
use Rattle.table_core.specs.Keys.{target_cmp, number_cmp}
use Rattle.table_core.specs.Rooms.{found}
use Rattle.table_core.specs.SliceStates.{SliceState, no_logs, HasBlockRoom}
use Rattle.table_core.specs.declared.control.Control.{Control}
use Rattle.table_core.specs.declared.rooms.Rooms.{Rooms}
use Rattle.table_core.specs.declared.written.TargetNumber.{TargetNumber}
use Rattle.table_history.specs.Answers.{May}
use Rattle.table_history.specs.Concerns.{IsOpened}
use Rattle.table_history.specs.Histories.{History}
use Rattle.table_history.specs.Instants.{completed_instants, targets_of}
use Rattle.table_history.specs.Logs.{version_in_use, known_length, is_unused, attempts, opened_at, logs_of}
use Rattle.table_history.specs.Metadata.{writes_of}
use Rattle.table_history.specs.Operations.{part_read}
use Rattle.table_history.specs.Pins.{files_of_view, pins_made}
use Rattle.table_history.specs.Tables.{Table}
use Rattle.table_history.specs.Times.{greatest_time}
use Rattle.table_history.specs.declared.job.Job.{Job}
use Rattle.table_history.specs.declared.log_file.LogFile.{LogFile}
use Rattle.table_history.specs.declared.reply.Cause.{Cause}
use Rattle.table_history.specs.declared.reply.Reply.{Reply}
use Rattle.table_history.specs.declared.reply.Reply.TheVariants.{Entered, Completed, Pinned, Fault, Damaged}
use Rattle.table_history.specs.declared.step.Reader.{Reader}
use Rattle.table_history.specs.declared.step.Reader.TheVariants as reader
use Rattle.table_history.specs.declared.step.Step.{Step}
use Rattle.table_history.specs.declared.step.Step.TheVariants.{Enter, Append, Finish, Pin, Unpin, Abandon}
use Rattle.table_history.specs.declared.view.Part.{Part}
use Rattle.table_props.specs.PropsTexts.{told_of}

-- ---- what the tables have

-- the targets of an instant, in the order of their numbers
abbrev pub targets_at : Rooms ℕ (List Target) → ℕ → List Target
targets_at targets t = unwrap_or (found nat_cmp targets t) []

abbrev pub targets_in : Control → ℕ → List Target
targets_in control t = targets_at control.targets t

-- how many writes were placed for a target of an instant, by its number
abbrev pub writes_at : Rooms TargetNumber ℕ → TargetNumber → ℕ
writes_at writes at = unwrap_or (found number_cmp writes at) 0

abbrev pub writes_in : Control → ℕ → ℕ → ℕ
writes_in control t target = writes_at control.writes (record { t = t; number = target })

-- the logs of a slice
abbrev pub slice_at : Rooms Target SliceState → Target → SliceState
slice_at slices s = unwrap_or (found target_cmp slices s) no_logs

abbrev pub slice_in : Control → Target → SliceState
slice_in control s = slice_at control.slices s

-- the files of a live pin, in the order of their numbers
abbrev pub parts_in : Control → ℕ → List Part
parts_in control pin = unwrap_or (found nat_cmp control.pins pin) []

-- a file of a reader, by its number
abbrev pub part_in : Control → Reader → ℕ → Option Part
part_in control (reader.Pin pin) file = slice_get (parts_in control pin) file

-- ---- when they are a table's

-- The version in use of a slice: nothing was placed in it where it is unused, and else it is the first of the logs.
abbrev pub IsInUse : Table → History → Target → ℕ → Bool → List LogFile → Type 0
IsInUse A H s version true logs = known_length A H s version ≡ 0
IsInUse A H s version false [] = ⊥
IsInUse A H s version false (log ∷ more) = (log.length ≡ known_length A H s version) × (log.attempt ≡ opened_at A H s)

-- the logs that the tables have of a slice
pub record IsSlice (A : Table) (H : History) (s : Target) (slice : SliceState) : Type 0 where
  pub logs : slice.logs ≡ logs_of A H s
  pub version : slice.version ≡ version_in_use A H s
  pub unused : slice.unused ≡ is_unused A H s
  pub in_use : IsInUse A H s slice.version slice.unused slice.logs
  pub later : (v : ℕ) → slice.version < v → known_length A H s v ≡ 0

-- The control tables are those of table A after history H.
pub record IsControl (A : Table) (H : History) (control : Control) : Type 0 where
  pub opened : IsOpened A
  pub fit : IsBuckets A.props.buckets
  pub props : told_of control.props ≡ A.props
  pub buckets : control.buckets ≡ A.props.buckets
  pub session : control.session ≡ A.session
  pub last : control.last ≡ greatest_time A H
  pub completed : reverse control.completed.items ≡ completed_instants A H
  pub targets : (t : ℕ) → targets_in control t ≡ targets_of A H t
  pub writes : (t target : ℕ) → writes_in control t target ≡ writes_of A H t target
  pub slices : (s : Target) → IsSlice A H s (slice_in control s)
  pub attempts : control.attempts ≡ attempts A H
  pub pins : (from : Reader) (file : ℕ) → part_in control from file ≡ part_read H from file
  pub pins_made : control.pins_made ≡ pins_made H

-- ---- conditions

-- There is a past of which these are the tables, after which the job may ask for the step.
pub record IsAsked (control : Control) (job : Job) (step : Step) : Type 0 where
  pub table : Table
  pub history : History
  pub tables : IsControl table history control
  pub may : May table history job step

-- the slice of a target is there
abbrev pub HasSlice : Control → ℕ → Option Target → Type 0
HasSlice control block None = Unit {0}
HasSlice control block (Some s) = IsSome (found target_cmp control.slices s) × HasBlockRoom (slice_in control s) block

abbrev pub HasEnterRoom : Control → ℕ → Reply → Type 0
HasEnterRoom control t (Entered targets) = IsSome (found nat_cmp control.targets t) × (control.entering ≡ targets)
HasEnterRoom control t _ = Unit {0}

-- a target has a place for its writes, and these stay below 2^32
abbrev pub HasWritesRoom : Rooms TargetNumber ℕ → TargetNumber → ℕ → Type 0
HasWritesRoom writes at more = IsSome (found number_cmp writes at) × (writes_at writes at + more < 2 ^ 32)

abbrev pub HasAppendRoom : Control → ℕ → ℕ → ℕ → ℕ → Type 0
HasAppendRoom control t target writes block =
    HasSlice control block (slice_get (targets_in control t) target) × (control.attempts + 1 < 2 ^ 64)
    × HasWritesRoom control.writes (record { t = t; number = target }) writes

abbrev pub HasFinishRoom : Control → Reply → Type 0
HasFinishRoom control (Completed t) = vec_len control.completed < vec_capacity control.completed
HasFinishRoom control _ = Unit {0}

abbrev pub HasPinRoom : Control → Reply → Type 0
HasPinRoom control (Pinned view) =
    IsSome (found nat_cmp control.pins view.pin) × (control.pinning ≡ files_of_view view)
    × (control.pins_made + 1 < 2 ^ 64)
HasPinRoom control _ = Unit {0}

-- There is room in the tables for the step with this reply: no memory is wanted, and no number passes its bits.
abbrev pub HasRoom : Control → Step → Reply → Type 0
HasRoom control (Enter t slots) r = HasEnterRoom control t r
HasRoom control (Append t target writes bytes) r = HasAppendRoom control t target writes (length bytes)
HasRoom control (Finish t checkpoint) r = HasFinishRoom control r × IfSome checkpoint (λ n. n < 2 ^ 64)
HasRoom control (Pin at bases_only) r = HasPinRoom control r
HasRoom control _ r = Unit {0}

-- there is room for what was decided, and for a failure
pub record HasRoomFor (control : Control) (step : Step) (reply : Reply) : Type 0 where
  pub decided : HasRoom control step reply
  pub fault : HasRoom control step Fault
  pub damaged : (name : List ℕ) (cause : Cause) → HasRoom control step (Damaged name cause)

-- the steps by which a job leaves its instant or its pin
abbrev pub IsLeaving : Step → Type 0
IsLeaving (Unpin pin) = Unit {0}
IsLeaving (Abandon t) = Unit {0}
IsLeaving _ = ⊥
