-- Files as a tree in memory keeps them. Private clauses alone speak of it.
use Rattle.std.specs.Prelude.{ℕ, List}
use Rattle.std.specs.FinMap.{from_entries}
use Rattle.hudi_base.specs.Files.{FileMap}

-- the files of a tree's entries, names and bytes
abbrev pub files_in : List (List ℕ × List ℕ) → FileMap
files_in entries = from_entries entries
