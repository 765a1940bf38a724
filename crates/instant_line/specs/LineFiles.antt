-- The timeline that the names of files are.
use Rattle.std.specs.Prelude.{◌≡◌, ◌≢◌, ℕ, ◌≤◌, ◌↔◌, ◌⊎◌, List, slice_get, Some}
use Rattle.std.specs.List.{Contains}
use Rattle.std.specs.Ordering.{nat_cmp}
use Rattle.std.specs.Cmp.Lexicographic.{slice_cmp}
use Rattle.std.specs.declared.cmp.Ordering.TheVariants.{Less}
use Rattle.file_names.specs.FileName.{name_of}
use Rattle.file_names.specs.declared.file_name.Action.{Action}
use Rattle.file_names.specs.declared.file_name.FileName.{FileName}
use Rattle.file_names.specs.declared.file_name.FileName.TheVariants.{Instant}
use Rattle.file_names.specs.declared.file_name.State.{State}
use Rattle.file_names.specs.declared.file_name.State.TheVariants.{Requested, Inflight, Completed}
use Rattle.instant_line.specs.Line.{Line, IsAt}

-- an instant has the files of its state and of those before it
abbrev pub HasFile : Line → ℕ → Action → State → Type 0
HasFile line t action Requested =
    IsAt line t action Requested ⊎ IsAt line t action Inflight ⊎ IsAt line t action Completed
HasFile line t action Inflight = IsAt line t action Inflight ⊎ IsAt line t action Completed
HasFile line t action Completed = IsAt line t action Completed

-- the names of the timeline's files among these are those of all files that the timeline has
abbrev pub AreFilesOf : Line → List FileName → Type 0
AreFilesOf line names = (t : ℕ) (action : Action) (state : State)
    → Contains names (Instant t action state) ↔ HasFile line t action state

-- ---- names that are no timeline

-- a file's name is before another's: by their bytes, in whatever table
abbrev pub IsBefore : FileName → FileName → Type 0
IsBefore f g = (table : List ℕ) → slice_cmp nat_cmp (name_of table f) (name_of table g) ≡ Less

-- of the files that there are, the one of the state before is missing
abbrev pub LacksEarlier : (ℕ → Action → State → Type 0) → ℕ → Action → State → Type 0
LacksEarlier has t action Requested = ⊥
LacksEarlier has t action Inflight = ¬ has t action Requested
LacksEarlier has t action Completed = ¬ has t action Inflight

-- a file of another action has this time, and its name is before
abbrev pub ComesSecond : (ℕ → Action → State → Type 0) → ℕ → Action → State → Type 0
ComesSecond has t action state =
    (other : Action) × (at : State) × (other ≢ action) × has t other at
    × IsBefore (Instant t other at) (Instant t action state)

abbrev pub Breaks : (ℕ → Action → State → Type 0) → ℕ → Action → State → Type 0
Breaks has t action state = LacksEarlier has t action state ⊎ ComesSecond has t action state

-- the name at a place is that of a file which breaks the timeline
pub record BreaksAt (names : List FileName) (i : ℕ) (t : ℕ) (action : Action) (state : State) : Type 0 where
  pub is : slice_get names i ≡ Some (Instant t action state)
  pub breaks : Breaks (λ u other at. Contains names (Instant u other at)) t action state

-- a file comes before another by its name, or its place, where they have one name
abbrev pub IsEarlier : FileName → ℕ → FileName → ℕ → Type 0
IsEarlier f i g j = IsBefore f g ⊎ ((f ≡ g) × (i ≤ j))

-- The name at a place is the first, in name order, that breaks the timeline.
pub record BreaksFirst (names : List FileName) (i : ℕ) : Type 0 where
  pub t : ℕ
  pub action : Action
  pub state : State
  pub here : BreaksAt names i t action state
  pub first : (j u : ℕ) (other : Action) (at : State)
      → BreaksAt names j u other at → IsEarlier (Instant t action state) i (Instant u other at) j
