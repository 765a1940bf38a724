use Rattle.std.proofs.Common.{◌≡◌, ◌++◌, map}
use Rattle.store_mem.proofs.FilesLemmas.{size_of}
use Rattle.store_mem.proofs.files.sizes_of.Given as goal

abbrev pub invariant-loop-name : goal.invariant-loop-name
invariant-loop-name l = l.listing ++ map size_of l.name-iterator ≡ map size_of l.files.entries
