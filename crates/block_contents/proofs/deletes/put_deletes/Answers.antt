use Rattle.std.proofs.Common.{arith}
use Rattle.std.proofs.lemmas.Grind.{common_steps}
use Rattle.std.proofs.lemmas.List.Elements.{All-more}
use Rattle.block_contents.specs.Readers.{HasRank}
use Rattle.block_contents.proofs.deletes.put_deletes.Goals as goal

pub loop-write-preserved : goal.loop-write-preserved
loop-write-preserved c = record {
  bytes = grind (arith, common_steps);
  ranked = All-more HasRank c.args.writes.now c.loop-write.write-index c.write-item.result c.loop-write-test.true c.loop-write.invariant.ranked (rw (← c.write-item.is) c.put_delete.ensures.ranked);
}
