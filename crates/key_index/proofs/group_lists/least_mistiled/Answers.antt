use Rattle.std.proofs.Common.{arith, Some, sym, ◌∙◌, ap}
use Rattle.key_index.proofs.TileRunLemmas.{mistiled-other, mistiled-same, mistiled-end, mistiled-end_none, mistiled-at, mistiled-over}
use Rattle.key_index.proofs.group_lists.least_mistiled.Goals as goal

pub returns-then-group-next-clause-value : goal.returns-then-group-next-clause-value
returns-then-group-next-clause-value c =
    ap Some c.min.ensures
    ∙ sym (c.loop-group.invariant.0
    ∙ mistiled-at _ _ c.group-item.result _ c.loop-group-test.true c.group-item.is
    ∙ mistiled-other _ _ _ c.if-group-next.true)

pub loop-group-preserved : goal.loop-group-preserved
loop-group-preserved c = (
  c.loop-group.invariant.0
      ∙ mistiled-at _ _ c.group-item.result _ c.loop-group-test.true c.group-item.is
      ∙ mistiled-same _ _ _ c.if-group-next.false,
  omega arith,
)

pub returns-then-next-lt65536-clause-value : goal.returns-then-next-lt65536-clause-value
returns-then-next-lt65536-clause-value c =
    sym (c.loop-group.invariant.0 ∙ mistiled-over _ _ _ c.loop-group-test.false ∙ mistiled-end _ c.if-next-lt65536.true)

pub returns-else-next-lt65536-clause-value : goal.returns-else-next-lt65536-clause-value
returns-else-next-lt65536-clause-value c =
    sym (c.loop-group.invariant.0 ∙ mistiled-over _ _ _ c.loop-group-test.false ∙ mistiled-end_none _ c.if-next-lt65536.false)
