-- What an entry is about.
use Rattle.std.specs.Prelude.{◌≡◌, ◌≤◌, ◌<◌, ℕ, Bool, false, ◌==◌, IsTrue, List, [], ◌∷◌, Some, None, IsSomeAnd}
use Rattle.std.specs.List.{list_any}
use Rattle.hudi_base.specs.declared.file_group.Target.{Target}
use Rattle.file_names.specs.declared.file_name.State.TheVariants as state
use Rattle.table_history.specs.Answers.{Owns}
use Rattle.table_history.specs.Histories.{History}
use Rattle.table_history.specs.JobLaw.{Phase, Drawn, Writes, Owes, Reads, Leaves}
use Rattle.table_history.specs.Logs.{goes_to, version_in_use, known_length, is_unused, opened_at, logs_of}
use Rattle.table_history.specs.Pins.{pin_of, part_at}
use Rattle.table_history.specs.Tables.{Table, Instant, instant_at}
use Rattle.table_history.specs.declared.job.Job.{Job}
use Rattle.table_history.specs.declared.reply.Reply.{Reply}
use Rattle.table_history.specs.declared.reply.Reply.TheVariants as reply
use Rattle.table_history.specs.declared.step.Step.{Step}
use Rattle.table_history.specs.declared.step.Step.TheVariants.{Begin, Enter, Append, Finish, Pin, Unpin, Abandon}
use Rattle.table_history.specs.declared.view.View.{View}

-- the entry is about the instant t
abbrev pub concerns : Step → Reply → ℕ → Bool
concerns Begin (reply.Began u) t = u == t
concerns (Enter u slots) r t = u == t
concerns (Append u target writes bytes) r t = u == t
concerns (Finish u checkpoint) r t = u == t
concerns (Abandon u) r t = u == t
concerns _ _ t = false

-- the entry is about the pin p
abbrev pub concerns_pin : Step → Reply → ℕ → Bool
concerns_pin (Unpin q) r p = q == p
concerns_pin (Pin at bases_only) (reply.Pinned view) p = view.pin == p
concerns_pin _ _ p = false

-- the step appends to the slice s
abbrev pub touches : Table → History → Step → Target → Bool
touches A H (Append t target writes bytes) s = goes_to A H t target s
touches A H _ s = false

-- what is said of a slice is the same after K as after H
pub record SameSlice (A : Table) (H K : History) (s : Target) : Type 0 where
  pub version : version_in_use A K s ≡ version_in_use A H s
  pub length : (v : ℕ) → known_length A K s v ≡ known_length A H s v
  pub unused : is_unused A K s ≡ is_unused A H s
  pub opened : is_unused A H s ≡ false → opened_at A K s ≡ opened_at A H s
  pub logs : logs_of A K s ≡ logs_of A H s

-- a table that was just opened: nobody owns an instant, and no time is above the greatest in the timeline's names
abbrev pub IsOpened : Table → Type 0
IsOpened A = (t : ℕ) (i : Instant) → instant_at A.instants t ≡ Some i → (i.owner ≡ None) × (t ≤ A.last)

-- ---- how a job's instant or pin stands, by how far the job is

-- each of the files is a part of the view, of this length, and has bytes
abbrev pub AreFiles : View → List (ℕ × ℕ) → Type 0
AreFiles view [] = Unit {0}
AreFiles view (file ∷ more) = IsSomeAnd (part_at view file.0) (λ part. part.length ≡ file.1) × (0 < file.1) × AreFiles view more

abbrev pub IsWithinFirst : List (ℕ × ℕ) → ℕ → Type 0
IsWithinFirst [] at = Unit {0}
IsWithinFirst (file ∷ more) at = at < file.1

-- the targets before this number have their blocks
abbrev pub HasPlaced : ℕ → Instant → Type 0
HasPlaced placed i = (k : ℕ) → k < placed → IsTrue (list_any (λ b. b.target == k) i.blocks)

abbrev pub Stands : Table → History → Job → Phase → Type 0
Stands A H job (Drawn t) = Owns A H job t (λ i. i.state ≡ state.Requested)
Stands A H job (Writes t targets placed) = Owns A H job t (λ i. (i.state ≡ state.Inflight) × (i.targets ≡ targets) × HasPlaced placed i)
Stands A H job (Owes t) = Owns A H job t (λ i. Unit {0})
Stands A H job (Reads pin files at) = IsSomeAnd (pin_of H pin) (λ live. (live.job ≡ job) × AreFiles live.view files × IsWithinFirst files at)
Stands A H job (Leaves pin) = IsSomeAnd (pin_of H pin) (λ live. live.job ≡ job)
Stands A H job _ = Unit {0}
