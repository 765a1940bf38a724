-- How the first name that breaks a timeline is sought: only private clauses speak of it.
use Rattle.std.specs.Prelude.{◌≡◌, ℕ, ◌<◌, ◌≤◌, ◌⊎◌, nat_le, if◌then◌else◌, List, slice_get, Option, Some, None}
use Rattle.std.specs.List.{Contains}
use Rattle.hudi_base.specs.InstantTime.{IsTime}
use Rattle.file_names.specs.declared.file_name.Action.{Action}
use Rattle.file_names.specs.declared.file_name.FileName.{FileName}
use Rattle.file_names.specs.declared.file_name.FileName.TheVariants.{Instant}
use Rattle.file_names.specs.declared.file_name.State.{State}
use Rattle.instant_line.specs.LineFiles.{Breaks}
use Rattle.instant_line.specs.NameOrder.{name_number}

-- of these files, this one breaks the timeline
abbrev pub BreaksIn : List (ℕ × Action × State) → ℕ → Action → State → Type 0
BreaksIn entries t action state = Breaks (λ u other at. Contains entries (u, other, at)) t action state

-- a name that breaks it, with its number
pub record BreaksWith (entries : List (ℕ × Action × State)) (name : FileName) (number : ℕ) : Type 0 where
  pub t : ℕ
  pub action : Action
  pub state : State
  pub is : name ≡ Instant t action state
  pub time : IsTime t
  pub breaks : BreaksIn entries t action state
  pub numbered : number ≡ name_number t action state

-- no break
abbrev pub IsSound : List (ℕ × Action × State) → FileName → Type 0
IsSound entries name = (t : ℕ) (action : Action) (state : State)
    → name ≡ Instant t action state → ¬ BreaksIn entries t action state

abbrev pub IsBreak : List (ℕ × Action × State) → FileName → Option ℕ → Type 0
IsBreak entries name None = IsSound entries name
IsBreak entries name (Some number) = BreaksWith entries name number

-- the first break so far, with its place and its number, where one is found at a place behind
abbrev pub earlier : Option (ℕ × ℕ) → ℕ → Option ℕ → Option (ℕ × ℕ)
earlier first i None = first
earlier None i (Some number) = Some (i, number)
earlier (Some first) i (Some number) = if nat_le first.1 number then Some first else Some (i, number)

-- the place and the number of the first break among the names below a place
pub record IsFirstBelow (entries : List (ℕ × Action × State)) (names : List FileName) (count : ℕ)
    (first : ℕ × ℕ) : Type 0 where
  pub t : ℕ
  pub action : Action
  pub state : State
  pub below : first.0 < count
  pub is : slice_get names first.0 ≡ Some (Instant t action state)
  pub time : IsTime t
  pub breaks : BreaksIn entries t action state
  pub numbered : first.1 ≡ name_number t action state
  pub least : (j u : ℕ) (other : Action) (at : State)
      → j < count → slice_get names j ≡ Some (Instant u other at) → BreaksIn entries u other at
      → IsTime u × ((first.1 < name_number u other at) ⊎ ((first.1 ≡ name_number u other at) × (first.0 ≤ j)))

abbrev pub IsFirst : List (ℕ × Action × State) → List FileName → ℕ → Option (ℕ × ℕ) → Type 0
IsFirst entries names count None = (j u : ℕ) (other : Action) (at : State)
    → j < count → slice_get names j ≡ Some (Instant u other at) → ¬ BreaksIn entries u other at
IsFirst entries names count (Some first) = IsFirstBelow entries names count first
