-- The base and log files that a table knows: an image has them, and their bytes begin with the known ones.
use Rattle.std.specs.Prelude.{◌≡◌, ℕ, List, ◌++◌, Some}
use Rattle.std.specs.FinMap.{get}
use Rattle.std.specs.List.{AllByRecursion}
use Rattle.hudi_base.specs.Files.{FileMap}
use Rattle.table_history.specs.Tables.{Table, KnownFile}

-- the file is there, and behind the known bytes there may be more: what an append left that failed
abbrev pub BeginsWithKnown : FileMap → KnownFile → Type 0
BeginsWithKnown image known = (more : List ℕ) × (get image known.name ≡ Some (known.bytes ++ more))

-- so does each file that the table knows
unfoldable pub KnownFiles : FileMap → Table → Type 0
KnownFiles image A = AllByRecursion (BeginsWithKnown image) A.files
