-- The known bytes, at each kind of step.
use Rattle.std.proofs.Common.{◌≡◌, ℕ, List, [], ◌∷◌, ◌++◌, Some, sym, subst}
use Rattle.std.specs.FinMap.{get}
use Rattle.std.specs.List.{AllByRecursion}
use Rattle.hudi_base.specs.Files.{FileMap}
use Rattle.hudi_base.specs.declared.file_group.Target.{Target}
use Rattle.table_history.specs.After.{after_history}
use Rattle.table_history.specs.Histories.{History}
use Rattle.table_history.specs.Logs.{files_of}
use Rattle.table_history.specs.Tables.{Table, KnownFile}
use Rattle.table_images.specs.KnownFiles.{KnownFiles, BeginsWithKnown}
use Rattle.table_images.specs.Kept.{Kept}
use Rattle.table_images.specs.Runs.{log_in_use}
use Rattle.table_images.proofs.AppendFacts.{IsPlacing, IsFailing}
use Rattle.table_images.proofs.WhereTo.{Goes, known_more, known_left}
use Rattle.table_images.proofs.SameLogs.{LeavesLogs}
use Rattle.table_images.proofs.Appended.{name_in_use, with_more}

-- ---- no append

known_all : (image new : FileMap) (known : List KnownFile) → ((name bytes : List ℕ) → get image name ≡ Some bytes → get new name ≡ Some bytes)
    → AllByRecursion (BeginsWithKnown image) known → AllByRecursion (BeginsWithKnown new) known
known_all image new [] more all = tt
known_all image new (k ∷ known) more all = ((all.0.0, more k.name (k.bytes ++ all.0.0) all.0.1), known_all image new known more all.1)

pub known_still : (A : Table) (H K : History) (image new : FileMap) → LeavesLogs A H K image new → Kept A image H → KnownFiles new (after_history A K)
unfolding KnownFiles
known_still A H K image new leaves kept = subst (AllByRecursion (BeginsWithKnown new)) (sym leaves.logs.files) (known_all image new (files_of A H) leaves.more kept.known)

-- ---- more bytes in a log

module _ (A : Table) (H K : History) (image : FileMap) (s : Target) (kept : Kept A image H) (to : Goes A H image s) (more : List ℕ) where
  pub known_placed : IsPlacing A H K s more → KnownFiles (with_more A H image s more) (after_history A K)
  unfolding KnownFiles
  known_placed placing =
      subst (AllByRecursion (BeginsWithKnown (with_more A H image s more))) (sym placing.files)
      (known_more image (log_in_use A H s) (name_in_use A H s) more (files_of A H) kept.known to.known)

  pub known_failed : IsFailing A H K s → KnownFiles (with_more A H image s more) (after_history A K)
  unfolding KnownFiles
  known_failed failing = subst (AllByRecursion (BeginsWithKnown (with_more A H image s more))) (sym failing.files) (known_left image (name_in_use A H s) more (files_of A H) kept.known)

-- ---- an append that left nothing

module _ (A : Table) (H K : History) (image : FileMap) (s : Target) (kept : Kept A image H) (to : Goes A H image s) (failing : IsFailing A H K s) where
  pub known_unchanged : KnownFiles image (after_history A K)
  unfolding KnownFiles
  known_unchanged = subst (AllByRecursion (BeginsWithKnown image)) (sym failing.files) kept.known
