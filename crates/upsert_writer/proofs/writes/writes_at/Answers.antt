use Rattle.std.proofs.Common.{arith}
use Rattle.std.proofs.lemmas.Grind.{common_steps}
use Rattle.upsert_writer.proofs.PlacedWrites.{writes_from-push}
use Rattle.upsert_writer.proofs.writes.writes_at.Goals as goal

pub loop-write-preserved : goal.loop-write-preserved
loop-write-preserved c =
    let pushed = writes_from-push c.args.t c.loop-write.yielded c.in-Some.write in
    record { placed = grind (arith, common_steps, pushed); seq = grind (arith, common_steps) }
