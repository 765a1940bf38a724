use Rattle.std.proofs.Common.{◌≡◌, take}
use Rattle.store_mem.specs.Entries.{files_in}
use Rattle.store_mem.specs.Files.{files_given}
use Rattle.store_mem.proofs.files.given_files.Given as goal

abbrev pub invariant-loop-name : goal.invariant-loop-name
invariant-loop-name l = files_in l.files.entries ≡ files_given (take l.name-index l.given)
