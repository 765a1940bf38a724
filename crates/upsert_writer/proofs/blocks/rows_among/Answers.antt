use Rattle.std.proofs.Common.{arith}
use Rattle.std.proofs.lemmas.Grind.{common_steps}
use Rattle.upsert_writer.proofs.KindBlocks.{rows_among-push}
use Rattle.upsert_writer.proofs.blocks.rows_among.Goals as goal

pub loop-write-preserved : goal.loop-write-preserved
loop-write-preserved c =
    let pushed = rows_among-push c.loop-write.yielded c.in-Some.write in
    grind (arith, common_steps, pushed)
