-- How far jobs are after a history.
use Rattle.std.specs.Prelude.{◌≡◌, ℕ, false, List, length}
use Rattle.std.specs.List.{All}
use Rattle.hudi_base.specs.declared.file_group.Target.{Target}
use Rattle.table_forms.specs.NameForms.{IsPartitionPath}
use Rattle.table_history.specs.Histories.{History, own, is_job}
use Rattle.table_history.specs.JobLaw.{Phase, Fresh, Drawn, Writes, Owes, phase}
use Rattle.table_history.specs.declared.job.Job.{Job}
use Rattle.table_history.specs.declared.step.PartitionSlots.{PartitionSlots}

abbrev pub IsFresh : History → Job → Type 0
IsFresh H job = phase (own job H) ≡ Fresh

abbrev pub HasDrawn : History → Job → ℕ → Type 0
HasDrawn H job t = phase (own job H) ≡ Drawn t

-- a writer that still has to leave its instant
abbrev pub HasFailed : History → Job → ℕ → Type 0
HasFailed H job t = phase (own job H) ≡ Owes t

-- a writer with one target, of which so many blocks are placed
pub record IsWriting (H : History) (job : Job) (t placed : ℕ) : Type 0 where
  pub targets : List Target
  pub one : length targets ≡ 1
  pub at : phase (own job H) ≡ Writes t targets placed

-- another job that has made no entry has made none then either
abbrev pub KeepsFresh : Job → History → History → Type 0
KeepsFresh job H K = (other : Job) → is_job other job ≡ false → IsFresh H other → IsFresh K other

abbrev pub AreSlots : List PartitionSlots → Type 0
AreSlots slots = All (λ asked. IsPartitionPath asked.partition) slots
