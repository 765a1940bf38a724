use Rattle.std.proofs.Common.{◌∙◌, ap, sym, ◌++◌, List, ℕ, Vec, Global, arith}
use Rattle.parquet_pages.proofs.LevelsLemmas.{levels_body-cons, run_same, run_other, run_last}
use Rattle.parquet_pages.proofs.levels.put_runs_from.Goals as goal
use Rattle.parquet_pages.proofs.levels.put_runs_from.Goals.{then-next-level, else-next-level+in_ok-put_run}

pub loop-next-init : goal.loop-next-init
loop-next-init c = (omega arith, ap (λ (t : List ℕ). c.args.out.now.items ++ t) (sym (levels_body-cons c.args.first c.args.more.now)))

pub loop-next-preserved : goal.loop-next-preserved
loop-next-preserved c =
    elim c.if-next-level.branch [
      | then-next-level w ↦ (
        omega (arith, w.times-is, c.loop-next.invariant.0),
        run_same c.loop-next.times c.if-next-level.times c.loop-next.next-index c.loop-next.level c.if-next-level.level c.args.more.now c.loop-next.out.items c.if-next-level.out.items _ c.loop-next-test.true w.if-next-level.true w.times-is w.level-is (ap (λ (v : Vec ℕ Global). v.items) w.out-is) c.loop-next.invariant.1,
      )
      | else-next-level+in_ok-put_run w ↦ (
        omega (arith, w.times-is, c.loop-next.invariant.0),
        run_other c.loop-next.times c.if-next-level.times c.loop-next.next-index c.loop-next.level c.if-next-level.level c.args.more.now c.loop-next.out.items c.if-next-level.out.items _ c.loop-next-test.true w.if-next-level.false w.times-is w.level-is (ap (λ (v : Vec ℕ Global). v.items) w.out-is ∙ w.in_ok-put_run.ensures) c.loop-next.invariant.1,
      )
    ]

pub returns : goal.returns
returns c =
    run_last c.loop-next.times c.loop-next.next-index c.loop-next.level c.args.more.now c.loop-next.out.items c.put_run-2.new.out.items _ (omega arith) c.in_ok-put_run-2.ensures c.loop-next.invariant.1
