-- What no step of a board changes, and what the steps of one job add.
use Rattle.std.specs.List.{AllByRecursion}
use Rattle.std.specs.Prelude.{◌≡◌, ◌↔◌, ◌≤◌, ◌≤ℤ◌, ◌++◌, List, Option, Some, is_some}
use Rattle.hudi_base.specs.Clock.{ClockState}
use Rattle.hudi_base.specs.Files.{Told}
use Rattle.hudi_base.specs.Store.{StoreState}
use Rattle.hudi_base.specs.declared.operation.Operation.{Operation}
use Rattle.table_history.specs.Histories.{History}
use Rattle.table_history.specs.declared.entry.Entry.{Entry}
use Rattle.table_history.specs.declared.job.Job.{Job}
use Rattle.table_board.specs.Boards.{Origin}

-- the operations are those from before, and then others
abbrev pub DoesMore : Option (List Operation) → Option (List Operation) → Type 0
DoesMore before after = (operations : List Operation) → before ≡ Some operations
    → (more : List Operation) × (after ≡ Some (operations ++ more))

-- what a store tells after it was told something else: its first files are the same, it tells its files where it did,
-- and an honest one has done what it had done
pub record ToldLater (honest : Type 0) (old new : Told) : Type 0 where
  pub first : new.first ≡ old.first
  pub files : is_some new.files ≡ is_some old.files
  pub operations : honest → DoesMore old.operations new.operations

-- A later state of a board: it was made of the same, its store is as honest as it was and has done more, and neither
-- the count of faults nor the greatest answer of the clock fell.
pub record IsLater (from to : Origin) (was_honest is_honest : Type 0) (old new : StoreState) (before after : ClockState)
    : Type 0 where
  pub origin : to ≡ from
  pub honest : was_honest ↔ is_honest
  pub told : ToldLater was_honest old.told new.told
  pub faults : old.faults ≤ new.faults
  pub most : before.most ≤ℤ after.most

-- the entries go on by those of this job, and by no other's
pub record AddsOwn (job : Job) (before after : History) : Type 0 where
  pub mine : List Entry
  pub are : after ≡ mine ++ before
  pub own : AllByRecursion (λ e. e.job ≡ job) mine

-- A later state of a board that does one job's steps: the same job's, with entries of it alone, over a later board.
pub record IsLaterSolo (job same : Job) (before after : History) (Later : Type 0) : Type 0 where
  pub job_is : same ≡ job
  pub adds : AddsOwn job before after
  pub board : Later
