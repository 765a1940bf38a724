use Rattle.std.proofs.Common.{◌<◌, ◌++◌, ◌∙◌, sym, take, length, arith}
use Rattle.std.proofs.lemmas.Bool.{eqb-true, eqb-false}
use Rattle.std.proofs.lemmas.Result.{err_from_is_err_and}
use Rattle.parquet_meta.specs.Reading.{with_value}
use Rattle.parquet_pages.specs.Levels.{run_at, runs_at, taken}
use Rattle.parquet_pages.proofs.LevelsLemmas.{Fails_then, runs_next, runs_Err, runs_end, run_few, run_shorter}
use Rattle.parquet_pages.proofs.levels.runs_at.Goals as goal

pub returns-in_err-rest : goal.returns-in_err-rest
returns-in_err-rest c =
    let p = err_from_is_err_and c.from_residual.result c.from_residual.ensures.1 in
    let ne = eqb-false _ _ (sym c.loop-rest-test.ensures) in
    let some : 0 < length c.loop-rest.rest.now = omega (arith, ne) in
    rw (p.1, p.2)
    (Fails_then c.in_err-rest.field-0.0 (with_value (λ run. take c.args.count (c.loop-rest.levels.items ++ run)) (run_at c.loop-rest.rest.now)) (taken c.args.count (runs_at (length c.args.bytes.now) c.args.bytes.now))
    (λ error e. c.loop-rest.invariant.1 ∙ runs_Err c.args.count c.loop-rest.levels.items c.loop-rest.rest.now error some e)
    c.in_err-rest.ensures)

pub loop-rest-smaller : goal.loop-rest-smaller
loop-rest-smaller c =
    run_shorter c.args.count c.loop-rest.levels.items c.push_run.new.levels.items c.loop-rest.rest.now c.in_ok-rest.rest.now c.in_ok-rest.ensures

pub loop-rest-preserved : goal.loop-rest-preserved
loop-rest-preserved c =
    let ne = eqb-false _ _ (sym c.loop-rest-test.ensures) in
    let some : 0 < length c.loop-rest.rest.now = omega (arith, ne) in (
      run_few c.args.count c.loop-rest.levels.items c.push_run.new.levels.items c.loop-rest.rest.now c.in_ok-rest.rest.now c.in_ok-rest.ensures,
      c.loop-rest.invariant.1 ∙ runs_next c.args.count c.loop-rest.levels.items c.push_run.new.levels.items c.loop-rest.rest.now c.in_ok-rest.rest.now some c.in_ok-rest.ensures,
    )

pub returns : goal.returns
returns c = c.loop-rest.invariant.1 ∙ runs_end c.args.count c.loop-rest.levels.items c.loop-rest.rest.now (eqb-true _ _ (sym c.loop-rest-test.ensures)) c.loop-rest.invariant.0
