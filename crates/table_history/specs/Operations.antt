-- What each step does to the store, and what is decided of it before.
use Rattle.std.specs.Prelude.{◌≡◌, ℕ, ℤ, List, [], Option, Some, None, option_and_then}
use Rattle.hudi_base.specs.InstantTime.{time_after}
use Rattle.hudi_base.specs.declared.file_group.Target.{Target}
use Rattle.commit_meta.specs.Texts.{meta_bytes}
use Rattle.commit_meta.specs.declared.meta.Meta.{Meta}
use Rattle.commit_meta.specs.declared.meta.Meta.TheVariants as meta
use Rattle.file_names.specs.FileName.{name_of}
use Rattle.file_names.specs.declared.file_name.Action.TheVariants.{Delta}
use Rattle.file_names.specs.declared.file_name.FileName.TheVariants.{Instant}
use Rattle.file_names.specs.declared.file_name.State.{State}
use Rattle.file_names.specs.declared.file_name.State.TheVariants as state
use Rattle.table_history.specs.Answers.{Answers}
use Rattle.table_history.specs.Histories.{History}
use Rattle.table_history.specs.Logs.{target_at, version_in_use, attempt_in_use, log_name}
use Rattle.table_history.specs.Metadata.{written_by}
use Rattle.table_history.specs.Pins.{pin_of, part_at}
use Rattle.table_history.specs.Tables.{Table}
use Rattle.table_history.specs.Times.{greatest_time}
use Rattle.table_history.specs.declared.operation.Decision.{Decision}
use Rattle.table_history.specs.declared.operation.Op.{Op}
use Rattle.table_history.specs.declared.operation.Op.TheVariants as op
use Rattle.table_history.specs.declared.reply.Reply.{Reply}
use Rattle.table_history.specs.declared.reply.Reply.TheVariants as reply
use Rattle.table_history.specs.declared.step.Reader.{Reader}
use Rattle.table_history.specs.declared.step.Reader.TheVariants as reader
use Rattle.table_history.specs.declared.step.Step.{Step}
use Rattle.table_history.specs.declared.step.Step.TheVariants.{Begin, Enter, Append, Finish, Read}
use Rattle.table_history.specs.declared.view.Part.{Part}

-- a file of the timeline is made, with this metadata
abbrev pub makes : Table → ℕ → State → Meta → Op
makes A t s said = op.Create (name_of A.props.name (Instant t Delta s)) (meta_bytes A.props.name said)

-- a block is added to the log in use of a slice
abbrev pub appends : Table → History → List ℕ → Option Target → Op
appends A H bytes None = op.Nothing
appends A H bytes (Some s) = op.Append (log_name A s (version_in_use A H s) (attempt_in_use A H s)) bytes

abbrev pub reads : ℕ → ℕ → Option Part → Op
reads at len None = op.Nothing
reads at len (Some part) = op.Read part.name at len

abbrev pub part_read : History → Reader → ℕ → Option Part
part_read H (reader.Pin pin) file = option_and_then (λ live. part_at live.view file) (pin_of H pin)

-- The one operation of a step that has this reply. What the operation of a Begin or an Enter that failed was to be isn't
-- told by the reply: it did nothing.
abbrev pub operation : Table → History → Step → Reply → Op
operation A H Begin (reply.Began t) = makes A t state.Requested meta.Empty
operation A H (Enter t slots) (reply.Entered targets) = makes A t state.Inflight (meta.Claims targets)
operation A H (Append t target writes bytes) r = appends A H bytes (target_at A H t target)
operation A H (Finish t checkpoint) r = makes A t state.Completed (meta.Delta (record { checkpoint = checkpoint; groups = written_by A H t }))
operation A H (Read from file at len) r = reads at len (part_read H from file)
operation A H _ r = op.Nothing

-- a drawn time is the clock's, or the one above the greatest
abbrev pub DrawsAt : Table → History → ℤ → Reply → Type 0
DrawsAt A H now (reply.Began t) = t ≡ time_after (greatest_time A H) now
DrawsAt A H now _ = Unit {0}

-- the reply in case the operation succeeds: the machine's, but that a piece has no bytes before it is read
abbrev pub Foresees : Table → History → Step → Reply → Type 0
Foresees A H (Read from file at len) r = r ≡ reply.Piece []
Foresees A H step r = Answers A H step r

abbrev pub Succeeds : Reply → Type 0
Succeeds reply.Fault = ⊥
Succeeds (reply.Damaged name cause) = ⊥
Succeeds reply.Memory = ⊥
Succeeds _ = Unit {0}

-- what is decided of a step while the clock shows `now`
pub record Decides (A : Table) (H : History) (step : Step) (now : ℤ) (decision : Decision) : Type 0 where
  pub answers : Foresees A H step decision.reply
  pub succeeds : Succeeds decision.reply
  pub draws : DrawsAt A H now decision.reply
  pub op : decision.op ≡ operation A H step decision.reply
