-- A run on a store that tells its files and its operations.
use Rattle.std.specs.Prelude.{◌≡◌, List, ◌++◌, Some}
use Rattle.hudi_base.specs.Files.{FileMap, Told}
use Rattle.hudi_base.specs.declared.operation.Operation.{Operation}
use Rattle.table_history.specs.Histories.{History}
use Rattle.table_history.specs.JobLaw.{Work}
use Rattle.table_history.specs.Tables.{Table}
use Rattle.table_images.specs.Runs.{Run, IsRun, history_of, operations_of, files_after}

-- The store tells what a run of these entries did to these files, after the operations before it.
pub record IsRunOn (work : Work) (A : Table) (files : FileMap) (before : List Operation) (H : History) (told : Told)
    : Type 0 where
  pub run : Run
  pub are : history_of run ≡ H
  pub operations : told.operations ≡ Some (before ++ operations_of run)
  pub now : told.files ≡ Some (files_after files run)
  pub legal : IsRun work A files run
