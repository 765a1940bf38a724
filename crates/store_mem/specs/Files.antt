-- Files that operations make of those that were given. This project's own.
use Rattle.std.specs.Prelude.{ℕ, List, [], ◌++◌, fold, Some}
use Rattle.std.specs.FinMap.{empty, insert}
use Rattle.hudi_base.specs.Files.{FileMap, Told, changed_all}
use Rattle.hudi_base.specs.declared.operation.Operation.{Operation}

-- the files of these names and bytes, put one after the other: of one name the last stands
abbrev pub files_given : List (List ℕ × List ℕ) → FileMap
files_given given = fold (λ files file. insert files file.0 file.1) empty given

-- the files that were given at first, by names and bytes, and the operations done since
pub record FileHistory : Type 0 where
  pub given : List (List ℕ × List ℕ)
  pub operations : List Operation

-- no operation was done yet
abbrev pub no_operations : List (List ℕ × List ℕ) → FileHistory
no_operations given = record { given = given; operations = [] }

-- these operations later
abbrev pub after_operations : FileHistory → List Operation → FileHistory
after_operations history operations = record history { operations = history.operations ++ operations }

-- the files that the operations make
abbrev pub files_made : FileHistory → FileMap
files_made history = changed_all (files_given history.given) history.operations

-- all that there is to tell
abbrev pub told_of : FileHistory → Told
told_of history = record {
  files = Some (files_made history);
  operations = Some history.operations;
  first = Some (files_given history.given);
}
