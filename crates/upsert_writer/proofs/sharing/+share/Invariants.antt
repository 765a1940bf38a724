use Rattle.std.proofs.Common.{length}
use Rattle.upsert_writer.proofs.sharing.+share.Given as goal

abbrev pub decreases-share : goal.decreases-share
decreases-share l = length l.targets.now
