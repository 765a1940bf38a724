-- Whole blocks, at each kind of step.
use Rattle.std.proofs.Common.{◌≡◌, inl, inr, ℕ, List, ◌++◌, Some, sym, subst, ◌⊎◌}
use Rattle.std.specs.FinMap.{get}
use Rattle.hudi_base.specs.Files.{FileMap, content}
use Rattle.hudi_base.specs.declared.file_group.Target.{Target}
use Rattle.file_names.specs.FileName.{name_of}
use Rattle.file_names.specs.declared.file_name.FileName.TheVariants as file
use Rattle.table_history.specs.After.{after_history}
use Rattle.table_history.specs.Histories.{History}
use Rattle.table_history.specs.Tables.{Table}
use Rattle.table_images.specs.Kept.{Kept}
use Rattle.table_images.specs.LogTexts.{WholeBlocks, IsLogText}
use Rattle.table_images.specs.Runs.{log_in_use}
use Rattle.table_images.proofs.AppendFacts.{IsFailing}
use Rattle.table_images.proofs.WhereTo.{Goes}
use Rattle.table_images.proofs.SameLogs.{LeavesLogs, log_is_none, had}
use Rattle.table_images.proofs.Appended.{name_in_use, with_more, another}

-- ---- no append

pub whole_still : (A : Table) (H K : History) (image new : FileMap) → LeavesLogs A H K image new → Kept A image H → WholeBlocks new (after_history A K)
unfolding WholeBlocks
whole_still A H K image new leaves kept group slice version token bytes has =
    kept.whole group slice version token bytes (had A H K image new (file.Log group slice version token) bytes leaves (log_is_none group slice version token) has)

-- ---- more bytes in a log

module _ (A : Table) (H K : History) (image : FileMap) (s : Target) (kept : Kept A image H) (to : Goes A H image s) (more : List ℕ) where
  pub whole_more : IsLogText (content image (name_in_use A H s) ++ more) → WholeBlocks (with_more A H image s more) (after_history A K)
  unfolding WholeBlocks
  whole_more text group slice version token bytes has = by_file (another A H image (file.Log group slice version token) s more bytes to.named has.named has.there).by
    where
      by_file : ((file.Log group slice version token ≡ log_in_use A H s) × (bytes ≡ content image (name_in_use A H s) ++ more))
          ⊎ ((name_of A.props.name (file.Log group slice version token) ≡ name_in_use A H s → ⊥) × (get image (name_of A.props.name (file.Log group slice version token)) ≡ Some bytes))
          → IsLogText bytes
      by_file (inl here) = subst IsLogText (sym here.1) text
      by_file (inr other) = kept.whole group slice version token bytes (record { named = has.named; there = other.1 })

-- ---- an append that left nothing

module _ (A : Table) (H K : History) (image : FileMap) (s : Target) (kept : Kept A image H) (to : Goes A H image s) (failing : IsFailing A H K s) where
  pub whole_unchanged : WholeBlocks image (after_history A K)
  unfolding WholeBlocks
  whole_unchanged group slice version token bytes has = kept.whole group slice version token bytes (record { named = has.named; there = has.there })
