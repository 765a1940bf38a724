-- How pending instants are held and found: only private clauses speak of it.
use Rattle.std.specs.Prelude.{◌≡◌, ℕ, ◌<◌, ◌≤◌, List, length, slice_index_or}
use Rattle.std.specs.List.Sorted.{IsPartitionPoint}
use Rattle.file_names.specs.declared.file_name.Action.{Action}
use Rattle.file_names.specs.declared.file_name.State.{State}

-- the instants, and how many more there is room for
pub record Queue : Type 0 where
  pub items : List (ℕ × Action × State)
  pub room : ℕ

-- where the times begin that aren't before t
abbrev pub IsPlace : {X : Type 0} → (X → ℕ) → ℕ → List X → ℕ → Type 0
IsPlace time t xs i = IsPartitionPoint (λ x. time x < t) (λ x. t ≤ time x) xs i

-- the pending instant of this time stands at this place
pub record StandsAt (pending : List (ℕ × Action × State)) (t place : ℕ) (instant : ℕ × Action × State) : Type 0 where
  pub within : place < length pending
  pub at : instant ≡ slice_index_or pending place instant
  pub time : instant.0 ≡ t
