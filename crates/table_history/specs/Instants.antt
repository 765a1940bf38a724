-- What a history says of an instant.
use Rattle.std.specs.Prelude.{ℕ, true, false, ◌+◌, ◌==◌, if◌then◌else◌, List, [], ◌∷◌, Option, Some, None, option_map, option_and_then}
use Rattle.std.specs.Option.{option_map_or}
use Rattle.hudi_base.specs.declared.file_group.Target.{Target}
use Rattle.file_names.specs.declared.file_name.Action.TheVariants.{Delta}
use Rattle.file_names.specs.declared.file_name.State.{State}
use Rattle.file_names.specs.declared.file_name.State.TheVariants as state
use Rattle.table_history.specs.Histories.{History}
use Rattle.table_history.specs.Tables.{Table, Instant, instant_at}
use Rattle.table_history.specs.Times.{insert_time}
use Rattle.table_history.specs.declared.job.Job.{Job}
use Rattle.table_history.specs.declared.reply.Reply.{Reply}
use Rattle.table_history.specs.declared.reply.Reply.TheVariants as reply
use Rattle.table_history.specs.declared.step.Step.{Step}
use Rattle.table_history.specs.declared.step.Step.TheVariants.{Begin, Enter, Append, Finish, Abandon}

-- how many instants are completed
abbrev pub completions : Table → History → ℕ
completions A [] = A.completed
completions A (e ∷ H) = after e.reply (completions A H)
  where
    after : Reply → ℕ → ℕ
    after (reply.Completed t) before = before + 1
    after _ before = before

-- ---- what a step makes of its instant

-- it was drawn by a job, when so many were completed
abbrev pub begun : Job → ℕ → Instant
begun job start = record { action = Delta; state = state.Requested; owner = Some job; targets = []; blocks = []; checkpoint = None; failed = false; start = start; finished = None }

abbrev pub entered : List Target → Instant → Instant
entered targets i = record i { state = state.Inflight; targets = targets }

abbrev pub with_block : ℕ → ℕ → List ℕ → Instant → Instant
with_block target writes bytes i = record i { blocks = record { target = target; writes = writes; bytes = bytes } ∷ i.blocks }

abbrev pub completed : ℕ → Option ℕ → Instant → Instant
completed number checkpoint i = record i { state = state.Completed; owner = None; checkpoint = checkpoint; finished = Some number }

abbrev pub failed : Instant → Instant
failed i = record i { failed = true }

abbrev pub abandoned : Instant → Instant
abandoned i = record i { owner = None }

-- ---- an instant after a history

-- what an entry makes of the instant t, when so many are completed
abbrev pub instant_after : ℕ → ℕ → Job → Step → Reply → Option Instant → Option Instant
instant_after t number job Begin (reply.Began u) before = if u == t then Some (begun job number) else before
instant_after t number job (Enter u slots) (reply.Entered targets) before = if u == t then option_map (entered targets) before else before
instant_after t number job (Append u target writes bytes) (reply.Placed version at) before = if u == t then option_map (with_block target writes bytes) before else before
instant_after t number job (Finish u checkpoint) (reply.Completed v) before = if u == t then option_map (completed number checkpoint) before else before
instant_after t number job (Abandon u) reply.Done before = if u == t then option_map abandoned before else before
instant_after t number job (Enter u slots) reply.Fault before = if u == t then option_map failed before else before
instant_after t number job (Enter u slots) (reply.Damaged name cause) before = if u == t then option_map failed before else before
instant_after t number job (Append u target writes bytes) reply.Fault before = if u == t then option_map failed before else before
instant_after t number job (Finish u checkpoint) reply.Fault before = if u == t then option_map failed before else before
instant_after t number job (Finish u checkpoint) (reply.Damaged name cause) before = if u == t then option_map failed before else before
instant_after t number job _ _ before = before

abbrev pub instant_of : Table → History → ℕ → Option Instant
instant_of A [] t = instant_at A.instants t
instant_of A (e ∷ H) t = instant_after t (completions A H) e.job e.step e.reply (instant_of A H t)

abbrev pub state_of : Table → History → ℕ → Option State
state_of A H t = option_map (λ i. i.state) (instant_of A H t)

abbrev pub owner_of : Table → History → ℕ → Option Job
owner_of A H t = option_and_then (λ i. i.owner) (instant_of A H t)

abbrev pub targets_of : Table → History → ℕ → List Target
targets_of A H t = option_map_or (λ i. i.targets) (instant_of A H t) []

-- ---- completed instants

-- the deltacommits that are completed in the table, the greatest first
abbrev pub completed_in : List (ℕ × Instant) → List ℕ
completed_in [] = []
completed_in (known ∷ more) = by known.1.state (completed_in more)
  where
    by : State → List ℕ → List ℕ
    by state.Completed us = insert_time known.0 us
    by _ us = us

abbrev pub completed_instants : Table → History → List ℕ
completed_instants A [] = completed_in A.instants
completed_instants A (e ∷ H) = after e.reply (completed_instants A H)
  where
    after : Reply → List ℕ → List ℕ
    after (reply.Completed t) before = insert_time t before
    after _ before = before

-- the greatest of times that stand in this order
abbrev pub greatest : List ℕ → Option ℕ
greatest [] = None
greatest (t ∷ more) = Some t

-- the latest instant: the greatest that is completed
abbrev pub latest : Table → History → Option ℕ
latest A H = greatest (completed_instants A H)
