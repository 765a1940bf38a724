use Rattle.std.proofs.Common.{arith, ◌≡◌, ◌-◌, length, take, drop}
use Rattle.std.proofs.lemmas.Grind.{common_steps}
use Rattle.script_run.proofs.EndParts.{written_more}
use Rattle.script_run.proofs.output.write_all.Goals as goal

pub loop-done-preserved : goal.loop-done-preserved
loop-done-preserved g c =
    let bytes = c.args.bytes.now in
    let done = c.loop-done.done in
    let answer = c.in-Took.ensures.answer in
    let rest : take (length bytes - done) (drop done bytes) ≡ drop done bytes = grind (arith, common_steps) in
    let wrote = rw rest at answer.written in
    let size : length (drop done bytes) ≡ length bytes - done = grind (arith, common_steps) in
    let fits = rw (rest, size) at answer.within in
    record {
      within = omega (arith, fits);
      prefix = written_more _ _ _ bytes done c.in-Took.count c.loop-done.invariant.prefix wrote c.loop-done.invariant.within;
      count = omega (arith, c.in-Took.ensures.cause.never_falls);
    }
