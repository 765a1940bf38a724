use Rattle.std.proofs.Common.{◌∙◌, ◌<◌, ◌-◌, Some, sym, ap, map, take, arith}
use Rattle.base_cells.proofs.TurnedLemmas.{takes-all, takes-less, left_long}
use Rattle.base_file.proofs.LastRowLemmas.{rows_started, row_before, no_row, rows_ended}
use Rattle.base_file.proofs.reading.rows_of_columns.Goals as goal

pub loop-left-init : goal.loop-left-init
loop-left-init g c = (
  omega arith,
  takes-all c.args.count c.args.columns.items c.requires,
  rows_started (g.K.RowCodec.base_row c.args.codec.now) c.args.partition.now c.args.columns.items c.args.count c.new-backwards.result.items c.new-backwards.ensures.items,
)

pub last_cells-requires : goal.last_cells-requires
last_cells-requires g c =
    let some : 0 < c.loop-left.left = omega arith in
    left_long c.loop-left.left c.args.count c.args.columns.items c.loop-left.columns.items some c.loop-left.invariant.0 c.loop-left.invariant.1 c.requires

pub returns-in-None : goal.returns-in-None
returns-in-None g c =
    let some : 0 < c.loop-left.left = omega arith in
    no_row (g.K.RowCodec.base_row c.args.codec.now) c.args.partition.now c.args.columns.items c.loop-left.columns.items c.loop-left.left c.args.count c.in_ok-cells.cells some c.loop-left.invariant.0 c.loop-left.invariant.1 c.in_ok-cells.ensures.cells (sym c.in-None.is ∙ c.in_ok-row.ensures)

pub loop-left-preserved : goal.loop-left-preserved
loop-left-preserved g c =
    let some : 0 < c.loop-left.left = omega arith in (
      omega arith,
      c.in_ok-cells.ensures.left ∙ ap (map (take (c.loop-left.left - 1))) c.loop-left.invariant.1 ∙ takes-less (c.loop-left.left - 1) c.loop-left.left c.args.columns.items (omega arith),
      row_before (g.K.RowCodec.base_row c.args.codec.now) c.args.partition.now c.args.columns.items c.loop-left.columns.items c.loop-left.left c.args.count c.in_ok-cells.cells c.in-Some.row c.loop-left.backwards.items c.push.new.self.items some c.loop-left.invariant.0 c.loop-left.invariant.1 c.in_ok-cells.ensures.cells (sym c.in-Some.is ∙ c.in_ok-row.ensures) c.in_ok-push-in-Some.ensures.items c.loop-left.invariant.2,
    )

pub returns : goal.returns
returns g c =
    ap Some c.reverse.ensures.items ∙ rows_ended (g.K.RowCodec.base_row c.args.codec.now) c.args.partition.now c.args.columns.items c.loop-left.left c.args.count c.loop-left.backwards.items (omega arith) c.loop-left.invariant.2
