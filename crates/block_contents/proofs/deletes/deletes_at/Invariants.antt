use Rattle.std.proofs.Common.{◌≡◌, ◌-◌}
use Rattle.block_contents.specs.Contents.{items_at}
use Rattle.block_contents.specs.Deletes.{delete_at}
use Rattle.block_contents.proofs.ItemLemmas.{with_before}
use Rattle.block_contents.proofs.deletes.deletes_at.Given as goal

-- the deletes so far, and those that the rest holds
abbrev pub invariant-loop : goal.invariant-loop
invariant-loop l = with_before (delete_at l.partition) l.found (items_at (delete_at l.partition) (l.count - l.counter) l.rest) ≡ items_at (delete_at l.partition) l.count l.bytes
