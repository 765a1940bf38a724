-- How a timeline is made of its files, in the order of their names: only private clauses speak of it.
use Rattle.std.specs.Prelude.{◌≡◌, ◌≢◌, ℕ, ◌-◌, ◌<◌, ◌≤◌, ◌↔◌, ◌⊎◌, List, slice_index_or}
use Rattle.std.specs.List.{Contains}
use Rattle.file_names.specs.declared.file_name.Action.{Action}
use Rattle.file_names.specs.declared.file_name.State.{State}
use Rattle.instant_line.specs.FirstBreak.{BreaksIn}
use Rattle.instant_line.specs.Line.{Line, IsAt}
use Rattle.instant_line.specs.LineFiles.{HasFile}
use Rattle.instant_line.specs.NameOrder.{name_number, entry_number}

-- all instants are before this time
abbrev pub IsBehind : Line → ℕ → Type 0
IsBehind line t = (u : ℕ) (action : Action) (state : State) → IsAt line u action state → u < t

-- one instant more
abbrev pub IsAdded : Line → Line → ℕ → Action → State → Type 0
IsAdded before after t action state = (u : ℕ) (other : Action) (at : State)
    → IsAt after u other at ↔ (((u ≡ t) × (other ≡ action) × (at ≡ state)) ⊎ IsAt before u other at)

-- the entry at a place has another time than the one before it
abbrev pub IsNewTime : List (ℕ × Action × State) → ℕ → Type 0
IsNewTime entries i = (d : ℕ × Action × State)
    → 0 < i → (slice_index_or entries (i - 1) d).0 ≢ (slice_index_or entries i d).0

-- an entry stands below a place
pub record IsBelow (entries : List (ℕ × Action × State)) (count : ℕ) (entry : ℕ × Action × State) : Type 0 where
  pub place : ℕ
  pub below : place < count
  pub is : (d : ℕ × Action × State) → slice_index_or entries place d ≡ entry

-- the instant of an entry's time stands in the line by a file that comes no later
pub record IsCovered (line : Line) (entry : ℕ × Action × State) : Type 0 where
  pub action : Action
  pub state : State
  pub at : IsAt line entry.0 action state
  pub no_later : name_number entry.0 action state ≤ entry_number entry

-- the line that the entries below a place make: each time's first
pub record IsBuilt (entries : List (ℕ × Action × State)) (count : ℕ) (line : Line) : Type 0 where
  pub sound : (t : ℕ) (action : Action) (state : State)
      → IsAt line t action state → IsBelow entries count (t, action, state)
  pub covers : (k : ℕ) (d : ℕ × Action × State) → k < count → IsCovered line (slice_index_or entries k d)

-- no entry breaks the timeline
abbrev pub AreSound : List (ℕ × Action × State) → Type 0
AreSound entries = (t : ℕ) (action : Action) (state : State)
    → Contains entries (t, action, state) → ¬ BreaksIn entries t action state

-- the entries are the files of the line
abbrev pub AreItsFiles : List (ℕ × Action × State) → Line → Type 0
AreItsFiles entries line = (t : ℕ) (action : Action) (state : State)
    → Contains entries (t, action, state) ↔ HasFile line t action state
