use Rattle.std.proofs.Common.{◌∙◌, ◌<◌, ◌-◌, ap, map, take, arith}
use Rattle.base_cells.proofs.TurnedLemmas.{takes-all, takes-less, left_long, turned_none, turned_step, turned_end}
use Rattle.base_cells.proofs.turning.turned.Goals as goal

pub loop-left-init : goal.loop-left-init
loop-left-init c = (omega arith, takes-all c.args.n c.args.lists.items c.requires, c.new-backwards.ensures.items ∙ turned_none c.args.n c.args.lists.items)

pub last_cells-requires : goal.last_cells-requires
last_cells-requires c =
    let some : 0 < c.loop-left.left = omega arith in
    left_long c.loop-left.left c.args.n c.args.lists.items c.loop-left.lists.items some c.loop-left.invariant.0 c.loop-left.invariant.1 c.requires

pub loop-left-preserved : goal.loop-left-preserved
loop-left-preserved c =
    let some : 0 < c.loop-left.left = omega arith in (
      omega arith,
      c.in_ok-cells.ensures.left ∙ ap (map (take (c.loop-left.left - 1))) c.loop-left.invariant.1 ∙ takes-less (c.loop-left.left - 1) c.loop-left.left c.args.lists.items (omega arith),
      turned_step c.loop-left.left c.args.n c.args.lists.items c.loop-left.lists.items c.in_ok-cells.cells c.loop-left.backwards.items c.push.new.self.items some c.loop-left.invariant.0 c.loop-left.invariant.1 c.in_ok-cells.ensures.cells c.loop-left.invariant.2 c.in_ok-push.ensures.items,
    )

pub returns : goal.returns
returns c = c.reverse.ensures.items ∙ turned_end c.loop-left.left c.args.n c.args.lists.items c.loop-left.backwards.items (omega arith) c.loop-left.invariant.2
