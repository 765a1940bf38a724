use Rattle.std.proofs.Common.{ℕ, ap, subst, sym, Err, Result, ◌∙◌}
use Rattle.std.proofs.lemmas.Result.{err_from_is_err_and}
use Rattle.std.specs.Str.Lines.{lines}
use Rattle.script_jobs.specs.Begun.{begun_view}
use Rattle.script_jobs.specs.Scripts.{Begun, Reads, jobs_from, whole_of}
use Rattle.script_jobs.specs.declared.script.LineCause.{LineCause}
use Rattle.script_jobs.proofs.ScriptParts.{jobs_stop}
use Rattle.script_jobs.proofs.parse.parse_script.Goals as goal

pub returns-in_err-begun : goal.returns-in_err-begun
returns-in_err-begun c =
    let begun = begun_view c.loop-line.begun in
    let filled = sym c.is_empty.ensures ∙ c.if-not-is_empty.true in
    let stop = jobs_stop c.args.lanes c.loop-line.number begun c.in-Some.line.now (lines c.in-Some.after.now) c.in_err-begun.field-0.0 filled c.in_err-begun.ensures in
    let same = ap (jobs_from c.args.lanes c.loop-line.number begun) (sym c.in-Some.ensures.line) ∙ c.loop-line.invariant.same in
    let p = err_from_is_err_and c.from_residual.result c.from_residual.ensures.1 in
    rw (p.1, p.2) (subst (λ (r : Result Begun (ℕ × LineCause)). Reads (Err c.in_err-begun.field-0.0) (whole_of r)) same stop)
