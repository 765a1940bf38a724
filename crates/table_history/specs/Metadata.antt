-- What the files of the timeline say of an instant, by the state that they mark. So far all instants are deltacommits.
use Rattle.std.specs.Prelude.{ℕ, ◌+◌, ◌==◌, if◌then◌else◌, List, [], ◌∷◌}
use Rattle.std.specs.Option.{option_map_or}
use Rattle.hudi_base.specs.declared.file_group.Target.{Target}
use Rattle.file_names.specs.declared.file_name.State.{State}
use Rattle.file_names.specs.declared.file_name.State.TheVariants.{Requested, Inflight, Completed}
use Rattle.commit_meta.specs.declared.meta.Meta.{Meta}
use Rattle.commit_meta.specs.declared.meta.Meta.TheVariants.{Empty, Claims, Delta}
use Rattle.table_history.specs.Histories.{History}
use Rattle.table_history.specs.Instants.{instant_of, targets_of}
use Rattle.table_history.specs.Tables.{Table, Instant, Block}

-- how many writes the blocks for the target of this number have
abbrev pub writes_among : ℕ → List Block → ℕ
writes_among target [] = 0
writes_among target (block ∷ blocks) = writes_among target blocks + (if block.target == target then block.writes else 0)

-- targets, the first of which has this number, each with its writes
abbrev pub written : (ℕ → ℕ) → ℕ → List Target → List (Target × ℕ)
written writes number [] = []
written writes number (target ∷ targets) = (target, writes number) ∷ written writes (number + 1) targets

-- The file of a deltacommit that is requested is empty, the next has the groups that it writes to, and the last one
-- has these with the numbers of writes that were placed there.
abbrev pub metadata : Instant → State → Meta
metadata i Requested = Empty
metadata i Inflight = Claims i.targets
metadata i Completed = Delta (record {
  checkpoint = i.checkpoint;
  groups = written (λ target. writes_among target i.blocks) 0 i.targets;
})

-- ---- after a history

-- how many writes of an instant were placed for the target of this number
abbrev pub writes_of : Table → History → ℕ → ℕ → ℕ
writes_of A H t target = option_map_or (λ i. writes_among target i.blocks) (instant_of A H t) 0

-- its targets with these
abbrev pub written_by : Table → History → ℕ → List (Target × ℕ)
written_by A H t = written (writes_of A H t) 0 (targets_of A H t)
