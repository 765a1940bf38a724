-- Numbers for the files of a timeline, in the order of their names: only private clauses speak of them.
use Rattle.std.specs.Prelude.{ℕ, ◌+◌, ◌*◌, ◌≤◌, ◌<◌, ◌⊎◌, List, ◌↔◌}
use Rattle.std.specs.List.{Contains}
use Rattle.file_names.specs.declared.file_name.Action.{Action}
use Rattle.file_names.specs.declared.file_name.Action.TheVariants.{Delta, Compaction, Replace, Clean, Rollback}
use Rattle.file_names.specs.declared.file_name.FileName.{FileName}
use Rattle.file_names.specs.declared.file_name.FileName.TheVariants.{Instant}
use Rattle.file_names.specs.declared.file_name.State.{State}
use Rattle.file_names.specs.declared.file_name.State.TheVariants.{Requested, Inflight, Completed}

-- clean, commit and compaction, deltacommit, replacecommit, rollback
abbrev pub action_rank : Action → ℕ
action_rank Clean = 0
action_rank Compaction = 1
action_rank Delta = 2
action_rank Replace = 3
action_rank Rollback = 4

-- the completed file, `.inflight`, `.requested`
abbrev pub state_rank : State → ℕ
state_rank Completed = 0
state_rank Inflight = 1
state_rank Requested = 2

unfoldable pub name_number : ℕ → Action → State → ℕ
name_number t action state = t * 15 + (action_rank action * 3 + state_rank state)

abbrev pub entry_number : ℕ × Action × State → ℕ
entry_number entry = name_number entry.0 entry.1 entry.2

-- the list `after` has what `before` has, and the files of the timeline among the names
pub record HaveEntries (names : List FileName) (before after : List (ℕ × Action × State)) : Type 0 where
  pub old : (entry : ℕ × Action × State) → Contains before entry → Contains after entry
  pub new : (t : ℕ) (action : Action) (state : State)
      → Contains names (Instant t action state) → Contains after (t, action, state)
  pub none_else : (t : ℕ) (action : Action) (state : State) → Contains after (t, action, state)
      → Contains before (t, action, state) ⊎ Contains names (Instant t action state)

-- the entries are the files of the timeline among the names
abbrev pub AreEntries : List (ℕ × Action × State) → List FileName → Type 0
AreEntries entries names = (t : ℕ) (action : Action) (state : State)
    → Contains entries (t, action, state) ↔ Contains names (Instant t action state)

-- an entry has a number from `low` up to `high`
pub record HasBetween (entries : List (ℕ × Action × State)) (low high : ℕ) : Type 0 where
  pub entry : ℕ × Action × State
  pub among : Contains entries entry
  pub from : low ≤ entry_number entry
  pub below : entry_number entry < high
