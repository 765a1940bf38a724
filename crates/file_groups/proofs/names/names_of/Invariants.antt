use Rattle.std.proofs.Common.{◌≡◌, take}
use Rattle.file_groups.specs.Names.{names_of}
use Rattle.file_groups.proofs.names.names_of.Given as goal

abbrev pub invariant-loop-file : goal.invariant-loop-file
invariant-loop-file l = l.names.items ≡ names_of l.table (take l.file-index l.files)
