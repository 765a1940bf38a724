use Rattle.std.proofs.Common.{◌++◌, ◌∙◌, ap, sym, Bool, List, Bor, arith}
use Rattle.std.proofs.lemmas.List.{append-nil}
use Rattle.hudi_base.specs.declared.value.Value.{Value}
use Rattle.parquet_pages.proofs.CellsLemmas.{boolean_none, boolean_over, step_some, step_null}
use Rattle.parquet_pages.proofs.plain.boolean_cells.Goals as goal
use Rattle.parquet_pages.proofs.plain.boolean_cells.Goals.{then-level+in-len1-up+in_ok-push, else-level+in_ok-push-2}

pub returns-in_default : goal.returns-in_default
returns-in_default c =
    sym (append-nil c.loop-level.cells)
    ∙ ap (λ (t : List Value). c.loop-level.cells ++ t) (sym (boolean_over c.loop-level.level-index c.args.levels.now c.loop-level.left.now c.loop-level-test.true c.if-level.true c.in_default.len_below))
    ∙ c.loop-level.invariant

pub loop-level-preserved : goal.loop-level-preserved
loop-level-preserved c =
    elim c.if-level.branch [
      | then-level+in-len1-up+in_ok-push w ↦
          step_some c.loop-level.level-index c.args.levels.now c.loop-level.left.now c.if-level.left.now c.loop-level.cells c.if-level.cells _ c.loop-level-test.true w.if-level.true w.in-len1-up.len_at_least (w.cells-is ∙ w.in_ok-push.ensures.ok) (ap (λ (b : Bor (List Bool)). b.now) w.left-is) c.loop-level.invariant
      | else-level+in_ok-push-2 w ↦
          step_null c.loop-level.level-index c.args.levels.now c.loop-level.left.now c.if-level.left.now c.loop-level.cells c.if-level.cells _ c.loop-level-test.true w.if-level.false (w.cells-is ∙ w.in_ok-push-2.ensures.ok) (ap (λ (b : Bor (List Bool)). b.now) w.left-is) c.loop-level.invariant
    ]

pub returns : goal.returns
returns c =
    sym (append-nil c.loop-level.cells)
    ∙ ap (λ (t : List Value). c.loop-level.cells ++ t) (sym (boolean_none c.loop-level.level-index c.args.levels.now c.loop-level.left.now (omega arith)))
    ∙ c.loop-level.invariant
