use Rattle.std.proofs.Common.{◌≡◌, ◌++◌, All, take}
use Rattle.std.specs.List.{flat_map}
use Rattle.block_contents.specs.Deletes.{delete_bytes}
use Rattle.block_contents.specs.Readers.{HasRank}
use Rattle.block_contents.proofs.deletes.put_deletes.Given as goal

-- the deletes so far
abbrev pub invariant-loop-write : goal.invariant-loop-write
invariant-loop-write l = record {
  bytes : l.out.items ≡ l.fn.out.items ++ flat_map delete_bytes (take l.write-index l.writes);
  ranked : All HasRank (take l.write-index l.writes);
}
