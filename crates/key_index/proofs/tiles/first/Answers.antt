use Rattle.std.proofs.Common.{subst, sym}
use Rattle.key_index.proofs.FirstGroups.{first-run}
use Rattle.key_index.specs.TileRuns.{RunsOn}
use Rattle.key_index.proofs.tiles.first.Goals as goal

pub invariant_of-result : goal.invariant_of-result
invariant_of-result c =
    subst (RunsOn 0) (sym c.in_ok-groups.ensures) (first-run c.args.partition.now c.args.buckets c.requires.some c.requires.most)
