-- The timeline: which instants there are, and how far each is. After Hudi's timeline (table version 6).
use Rattle.std.specs.Prelude.{◌≢◌, ℕ, ◌<◌, ◌↔◌, List}
use Rattle.std.specs.List.{All, AllPairs, Contains}
use Rattle.file_names.specs.declared.file_name.Action.{Action}
use Rattle.file_names.specs.declared.file_name.State.{State}
use Rattle.file_names.specs.declared.file_name.State.TheVariants.{Requested, Inflight, Completed}

-- The instants of a table, by their times: those that are completed, each with its action, and those that are not, each
-- with its state too.
pub record Line : Type 0 where
  pub completed : List (ℕ × Action)
  pub pending : List (ℕ × Action × State)

abbrev pub line_of : List (ℕ × Action) → List (ℕ × Action × State) → Line
line_of completed pending = record { completed = completed; pending = pending }

-- in order of time, each time once
abbrev pub AreInTime : {X : Type 0} → (X → ℕ) → List X → Type 0
AreInTime time xs = AllPairs (λ x y. time x < time y) xs

-- Both lists are in order of time, a pending instant isn't completed, and no time is in both lists.
pub record IsLine (line : Line) : Type 0 where
  pub completed : AreInTime (λ (x : ℕ × Action). x.0) line.completed
  pub pending : AreInTime (λ (x : ℕ × Action × State). x.0) line.pending
  pub unfinished : All (λ (x : ℕ × Action × State). x.2 ≢ Completed) line.pending
  pub apart : (x : ℕ × Action) (y : ℕ × Action × State)
      → Contains line.completed x → Contains line.pending y → x.0 ≢ y.0

-- the instant t does this, and is so far
abbrev pub IsAt : Line → ℕ → Action → State → Type 0
IsAt line t action Requested = Contains line.pending (t, action, Requested)
IsAt line t action Inflight = Contains line.pending (t, action, Inflight)
IsAt line t action Completed = Contains line.completed (t, action)

-- there is no instant t
abbrev pub IsAbsent : Line → ℕ → Type 0
IsAbsent line t = (action : Action) (state : State) → ¬ IsAt line t action state

-- t is an instant that isn't completed
abbrev pub IsPending : Line → ℕ → Type 0
IsPending line t = (action : Action) × (state : State) × (state ≢ Completed) × IsAt line t action state

-- what the timeline says of all other times is the same
abbrev pub AreSameBeside : ℕ → Line → Line → Type 0
AreSameBeside t before after = (u : ℕ) (action : Action) (state : State)
    → u ≢ t → IsAt after u action state ↔ IsAt before u action state

-- ---- a move

-- the state follows the present one of the instant: a requested one is new, and each goes on as it began
abbrev pub FollowsIn : Line → ℕ → Action → State → Type 0
FollowsIn line t action Requested = IsAbsent line t
FollowsIn line t action Inflight = IsAt line t action Requested
FollowsIn line t action Completed = IsAt line t action Inflight

-- The instant t moved to this state.
pub record IsMoved (before after : Line) (t : ℕ) (action : Action) (state : State) : Type 0 where
  pub here : IsAt after t action state
  pub others : AreSameBeside t before after

-- ---- a move back

-- The instant t lost its last file: an inflight one is requested again, and a requested one is gone.
pub record IsTakenBack (before after : Line) (t : ℕ) : Type 0 where
  pub inflight : (action : Action) → IsAt before t action Inflight → IsAt after t action Requested
  pub requested : (action : Action) → IsAt before t action Requested → IsAbsent after t
  pub others : AreSameBeside t before after

-- ---- room

-- A timeline, and how many instants may still be requested or completed without memory.
pub record Held : Type 0 where
  pub line : Line
  pub room : ℕ
