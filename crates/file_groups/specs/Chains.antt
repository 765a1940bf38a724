-- What is read of a group at a time: a base file, and the logs of its slice and of later ones. It goes by the times of
-- base files and slices, and never by the instants of blocks. After Hudi's file slices; that logs of later slices are
-- read too is this project's own.
use Rattle.std.specs.Prelude.{◌≡◌, ℕ, ◌+◌, ◌*◌, ◌^◌, ◌==◌, Bool, true, false, nat_le, max, List, [], ◌∷◌, ◌++◌, filter, fold, map, Option, Some, None}
use Rattle.std.specs.List.{find}
use Rattle.file_groups.specs.Orders.{IsSortedFrom}
use Rattle.file_groups.specs.declared.parts.BasePart.{BasePart}
use Rattle.file_groups.specs.declared.parts.GroupView.{GroupView}
use Rattle.file_groups.specs.declared.parts.LogPart.{LogPart}
use Rattle.file_groups.specs.declared.parts.Part.{Part}

-- the greatest time of a base file up to t, 0 where there is none
abbrev pub newest_time : ℕ → List BasePart → ℕ
newest_time t bases = fold max 0 (filter (λ time. nat_le time t) (map (λ base. base.time) bases))

-- the newest base file up to t, if there is one; of several with one time the first
unfoldable pub newest_base : ℕ → List BasePart → Option BasePart
newest_base t bases = find (λ base. base.time == newest_time t bases) bases

-- the log is of the base file's slice or a later one; without a base file, any log
abbrev pub is_after : Option BasePart → LogPart → Bool
is_after None log = true
is_after (Some base) log = nat_le base.time log.slice

-- by slice, and by version within a slice: versions have 64 bits
abbrev pub log_number : LogPart → ℕ
log_number log = log.slice * 2 ^ 64 + log.version

abbrev pub part_of_base : BasePart → Part
part_of_base base = record { name = base.name; length = base.length; base = true }

abbrev pub part_of_log : LogPart → Part
part_of_log log = record { name = log.name; length = log.length; base = false }

abbrev pub base_first : Option BasePart → List Part
base_first None = []
base_first (Some base) = part_of_base base ∷ []

-- the parts of a group at t: the newest base file up to t, and then the logs from its slice on, in order
pub record IsChain (view : GroupView) (t : ℕ) (parts : List Part) : Type 0 where
  pub logs : List LogPart
  pub ordered : IsSortedFrom log_number (filter (is_after (newest_base t view.bases)) view.logs) logs
  pub all : parts ≡ base_first (newest_base t view.bases) ++ map part_of_log logs
