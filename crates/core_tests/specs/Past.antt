-- What a test knows of the control that it drives.
use Rattle.std.specs.Prelude.{◌≡◌, ℕ, ◌==◌, false, ◌∷◌, Option, Some, None, length, IsSomeAnd}
use Rattle.file_names.specs.declared.file_name.State.TheVariants as state
use Rattle.table_core.specs.ControlTables.{IsControl}
use Rattle.table_core.specs.declared.control.Control.{Control}
use Rattle.table_history.specs.Answers.{Answers, May, Owns, AllPlaced}
use Rattle.table_history.specs.Histories.{History}
use Rattle.table_history.specs.Pins.{part_at, pin_of}
use Rattle.table_history.specs.Tables.{Table, Instant}
use Rattle.table_history.specs.declared.job.Job.{Job}
use Rattle.table_history.specs.declared.reply.Reply.{Reply}
use Rattle.table_history.specs.declared.step.Step.{Step}
use Rattle.table_history.specs.declared.view.View.{View}

-- there is a past of which these are the tables
pub record HasPast (control : Control) : Type 0 where
  pub table : Table
  pub history : History
  pub tables : IsControl table history control

-- in which the job owns an instant, of which this holds
pub record HasInstant (P : Instant → Type 0) (control : Control) (job : Job) (t : ℕ) : Type 0 where
  pub table : Table
  pub history : History
  pub tables : IsControl table history control
  pub owns : Owns table history job t P

-- requested; inflight with one target; and with a block in it
abbrev pub IsDrawn : Instant → Type 0
IsDrawn i = i.state ≡ state.Requested

abbrev pub IsWriting : Instant → Type 0
IsWriting i = (i.state ≡ state.Inflight) × (length i.targets ≡ 1)

abbrev pub IsPlaced : Instant → Type 0
IsPlaced i = (i.state ≡ state.Inflight) × AllPlaced i

abbrev pub IsOwned : Instant → Type 0
IsOwned i = Unit {0}

-- in which the job has this pin
pub record HasPin (control : Control) (job : Job) (pin : ℕ) : Type 0 where
  pub table : Table
  pub history : History
  pub tables : IsControl table history control
  pub live : IsSomeAnd (pin_of history pin) (λ live. live.job ≡ job)

-- the job has a pin of this view
pub record HasView (control : Control) (job : Job) (view : View) : Type 0 where
  pub table : Table
  pub history : History
  pub tables : IsControl table history control
  pub live : IsSomeAnd (pin_of history view.pin) (λ live. (live.job ≡ job) × (live.view ≡ view))

-- the view of a pin, if there is one
abbrev pub HasViewIfAny : Control → Job → Option View → Type 0
HasViewIfAny control job None = HasPast control
HasViewIfAny control job (Some view) = HasView control job view

-- the first file of a view has this length
abbrev pub IsFirstLength : View → ℕ → Type 0
IsFirstLength view length = IsSomeAnd (part_at view 0) (λ part. part.length ≡ length)

-- the control was led through a step with this reply
pub record Leads (old new : Control) (job : Job) (step : Step) (reply : Reply) : Type 0 where
  pub answers : (A : Table) (H : History) → IsControl A H old → Answers A H step reply
  pub tables : (A : Table) (H : History) → IsControl A H old → May A H job step
      → IsControl A (record { job = job; step = step; reply = reply } ∷ H) new

-- in which two jobs own an instant each, of which these hold
pub record HasTwo (P Q : Instant → Type 0) (control : Control) (job : Job) (t : ℕ) (other : Job) (u : ℕ) : Type 0 where
  pub table : Table
  pub history : History
  pub tables : IsControl table history control
  pub owns : Owns table history job t P
  pub others : Owns table history other u Q
  pub apart : (t == u) ≡ false

-- how far an instant is
pub data Stage : Type 0 where
  Drawn : Stage
  Writing : Stage
  Placed : Stage

abbrev pub Is : Stage → Instant → Type 0
Is Drawn = IsDrawn
Is Writing = IsWriting
Is Placed = IsPlaced

-- What a step does beside the instant of another job: where that job has one, it has it still.
abbrev pub Keeps : (P R : Instant → Type 0) → Control → Control → Job → ℕ → Type 0
Keeps P R old new job t = (stage : Stage) (other : Job) (u : ℕ)
    → HasTwo P (Is stage) old job t other u → HasTwo R (Is stage) new job t other u

abbrev pub Leaves : (P : Instant → Type 0) → Control → Control → Job → ℕ → Type 0
Leaves P old new job t = (stage : Stage) (other : Job) (u : ℕ)
    → HasTwo P (Is stage) old job t other u → HasInstant (Is stage) new other u

-- Begin, where another job has an instant.
abbrev pub Joins : Control → Control → Job → ℕ → Type 0
Joins old new job t = (stage : Stage) (other : Job) (u : ℕ)
    → HasInstant (Is stage) old other u → HasTwo IsDrawn (Is stage) new job t other u
