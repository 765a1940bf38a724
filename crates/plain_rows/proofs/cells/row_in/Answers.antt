use Rattle.std.proofs.Common.{◌≡◌, ℕ, subst}
use Rattle.std.specs.Prelude.{Result, option_map}
use Rattle.payload_merge.specs.RowCodec.{AnswersContent}
use Rattle.payload_merge.specs.declared.row.Row.{Row}
use Rattle.plain_rows.specs.Cells.{row_in, row_of_cells}
use Rattle.plain_rows.proofs.CellParts.{six_cells, not_six_cells}
use Rattle.plain_rows.proofs.cells.row_in.Goals as goal

pub returns-then-cells-ne-CELLS : goal.returns-then-cells-ne-CELLS
returns-then-cells-ne-CELLS c = not_six_cells c.args.partition.now c.args.cells.now c.if-cells-ne-CELLS.true

pub returns : goal.returns
returns c =
    let partition = c.args.partition.now in
    let cells = c.args.cells.now in
    let whole = six_cells partition cells c.index-cells-1.result c.index-cells-2.result c.index-cells-3.result c.index-cells-4.result c.index-cells-5.result
    c.if-cells-ne-CELLS.false c.index-cells-1.is c.index-cells-2.is c.index-cells-3.is c.index-cells-4.is c.index-cells-5.is in
    let key = option_map (λ bytes. bytes.now) c.sized_of.result in
    let body = option_map (λ bytes. bytes.now) c.sized_of-2.result in
    let same : row_of_cells partition c.time_of.result c.place_of.result key c.rank_of.result body ≡ row_in partition cells =
    rw (c.time_of.ensures, c.place_of.ensures, c.sized_of.ensures, c.rank_of.ensures, c.sized_of-2.ensures) whole in
    subst (λ (said : Result Row ℕ). AnswersContent said c.row_of_cells.result) same c.row_of_cells.ensures
