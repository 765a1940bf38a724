-- What contracts see of a board, what a step adds to it, and what always holds of it.
use Rattle.std.specs.Prelude.{◌≡◌, ◌⊎◌, ◌≤◌, ◌<◌, ◌+◌, ◌-◌, ◌^◌, ◌≤ℤ◌, ℕ, ℤ, pos, if◌then◌else◌, List, [], ◌∷◌, length}
use Rattle.hudi_base.specs.Clock.{ClockState, after_answer}
use Rattle.table_core.specs.ControlTables.{IsControl}
use Rattle.table_core.specs.declared.control.Control.{Control}
use Rattle.table_history.specs.Histories.{History, is_job}
use Rattle.table_history.specs.JobLaw.{Work, IsLegal, PlacedEntry}
use Rattle.table_history.specs.Tables.{Table, fresh}
use Rattle.table_history.specs.Times.{greatest_time}
use Rattle.table_history.specs.declared.job.Job.{Job}
use Rattle.table_history.specs.declared.reply.Reply.{Reply}
use Rattle.table_history.specs.declared.reply.Reply.TheVariants as reply
use Rattle.table_history.specs.declared.step.Step.{Step}
use Rattle.table_history.specs.declared.step.Step.TheVariants.{Begin}
use Rattle.table_board.specs.Journals.{JournalState}
use Rattle.table_board.specs.KnownEntries.{known_entries}
use Rattle.table_board.specs.Owed.{owed_steps}
use Rattle.table_props.specs.PropsTexts.{Told as Properties, told_of}

-- What a board was made of: the properties of its table, how often its store had failed, and how many operations the store had done.
pub record Origin : Type 0 where
  pub props : Properties
  pub faults : ℕ
  pub done : ℕ

-- A board: its entries, the last one first, its store and its clock, and what it was made of.
pub record BoardState (S C : Type 0) : Type 0 where
  pub entries : History
  pub store : S
  pub clock : C
  pub origin : Origin

-- The table as it was when the board was made. For now it had no instants.
abbrev pub table_of : Origin → Table
table_of origin = fresh origin.props

-- ---- a step

-- The entries after a step that had this reply. Want of memory adds no entry.
abbrev pub after_step : Job → Step → Reply → History → History
after_step job step reply.Memory H = H
after_step job step r H = record { job = job; step = step; reply = r } ∷ H

-- Begin asks the clock once, and no other step asks it.
abbrev pub AsksClock : Step → ClockState → ClockState → Type 0
AsksClock Begin old new = new ≡ after_answer old new.last
AsksClock _ old new = new ≡ old

-- What Begin is shown: the clock's last answer.
abbrev pub Shows : Step → ℤ → ClockState → Type 0
Shows Begin now clock = (now ≡ clock.last) × (now ≤ℤ clock.most)
Shows _ now clock = Unit {0}

-- ---- times

-- a time drawn after the last one: just above it, or above it and no later than the clock has shown
pub record IsDrawn (most : ℤ) (last time : ℕ) : Type 0 where
  pub above : last < time
  pub next_or_shown : (time ≡ last + 1) ⊎ (pos time ≤ℤ most)

abbrev pub DrawsTime : Table → ℤ → History → Reply → Type 0
DrawsTime A most H (reply.Began t) = IsDrawn most (greatest_time A H) t
DrawsTime A most H _ = Unit {0}

-- each time that an entry drew was drawn after the greatest one before it
abbrev pub DrawnTimes : Table → ℤ → History → Type 0
DrawnTimes A most [] = Unit {0}
DrawnTimes A most (e ∷ H) = DrawnTimes A most H × DrawsTime A most H e.reply

-- ---- faults

abbrev pub fault_of : Reply → ℕ
fault_of reply.Fault = 1
fault_of _ = 0

-- how many entries are faults
abbrev pub faults_among : History → ℕ
faults_among [] = 0
faults_among (e ∷ H) = faults_among H + fault_of e.reply

-- They are at most as many as the count rose by, or the count stands at its last value.
abbrev pub FaultsCounted : ℕ → History → ℕ → Type 0
FaultsCounted first H now = (first + faults_among H ≤ now) ⊎ (2 ^ 64 - 1 ≤ now)

-- ---- what a board keeps

-- The entries, by the bytes that the table knows, are legal; the control is theirs, and there is room for what is owed.
pub record Keeps (work : Work) (A : Table) (control : Control) (journal : JournalState) : Type 0 where
  pub legal : IsLegal work A (known_entries A journal.entries)
  pub tables : IsControl A (known_entries A journal.entries) control
  pub owed : owed_steps (known_entries A journal.entries) ≤ journal.owed
  pub room : journal.owed ≤ journal.room

abbrev pub BoardKeeps : Work → Control → JournalState → Type 0
BoardKeeps work control journal = Keeps work (fresh (told_of control.props)) control journal

-- What always holds of a board: it keeps the above, its faults are counted, from the first count on, and its times were
-- drawn.
pub record IsBoard (work : Work) (control : Control) (journal : JournalState) (first now : ℕ) (most : ℤ) : Type 0 where
  pub keeps : BoardKeeps work control journal
  pub faults : FaultsCounted first journal.entries now
  pub drawn : DrawnTimes (fresh (told_of control.props)) most journal.entries

-- nothing was taken into the control since it was made
abbrev pub IsNewTable : Control → Type 0
IsNewTable control = IsControl (fresh (told_of control.props)) [] control

-- ---- the entries of a job

-- with their places in the history, from 0; the last one first
abbrev pub placed_own : Job → History → List PlacedEntry
placed_own job [] = []
placed_own job (e ∷ H) =
    if is_job job e.job then record { place = length H; entry = e } ∷ placed_own job H else placed_own job H
