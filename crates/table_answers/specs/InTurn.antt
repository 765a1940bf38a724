-- Jobs that come one after another, as in one lane.
use Rattle.std.specs.Prelude.{◌≡◌, ◌⊎◌, true, List, [], ◌∷◌, ◌++◌, slice_get, IsSomeAnd}
use Rattle.std.specs.List.{AllByRecursion}
use Rattle.hudi_base.specs.declared.file_group.Target.{Target}
use Rattle.payload_merge.specs.declared.row.Write.{Write}
use Rattle.table_history.specs.Histories.{History, own}
use Rattle.table_history.specs.declared.entry.Entry.{Entry}
use Rattle.table_history.specs.declared.job.Job.{Job}
use Rattle.table_history.specs.declared.step.Step.{Step}
use Rattle.table_history.specs.declared.step.Step.TheVariants.{Append}
use Rattle.upsert_writer.specs.BatchWrites.{is_in_group}
use Rattle.upsert_writer.specs.Blocks.{BlockForm, HasWrites}
use Rattle.upsert_writer.specs.WriterSteps.{targets_given}

-- the job goes on, or makes its first entry
abbrev pub IsItsTurn : Job → History → Type 0
IsItsTurn job [] = Unit {0}
IsItsTurn job (e ∷ H) = (e.job ≡ job) ⊎ (own job (e ∷ H) ≡ [])

-- no job's entry stands between two of another's
abbrev pub IsInTurn : History → Type 0
IsInTurn [] = Unit {0}
IsInTurn (e ∷ H) = IsItsTurn e.job H × IsInTurn H

-- an append carries a block of some writes for its target, which lie in the target's group
abbrev pub CarriesWrites : BlockForm → List Target → Step → Type 0
CarriesWrites form targets (Append t target writes bytes) =
    IsSomeAnd (slice_get targets target)
    (λ s. (own : List Write) × HasWrites form own t s.group writes bytes × AllByRecursion (λ w. is_in_group s.group w ≡ true) own)
CarriesWrites form targets step = Unit {0}

-- each append of the history does, placed or failed
abbrev pub CarriesForm : BlockForm → History → Type 0
CarriesForm form [] = Unit {0}
CarriesForm form (e ∷ H) = CarriesWrites form (targets_given (own e.job H)) e.step × CarriesForm form H

-- From one history to a later one a job made these entries, its first, and no other job made any.
pub record IsMadeBy (job : Job) (before after : History) (mine : List Entry) : Type 0 where
  pub are : after ≡ mine ++ before
  pub all : AllByRecursion (λ e. e.job ≡ job) mine
  pub first : own job before ≡ []
