use Rattle.std.proofs.Common.{ap, ◌∙◌}
use Rattle.plain_rows.specs.Cells.{row_in}
use Rattle.plain_rows.proofs.CellParts.{cells_again}
use Rattle.plain_rows.proofs.codec.PlainRowsRowCodec.cells.Goals as goal

pub returns-clause-reads_back : goal.returns-clause-reads_back
returns-clause-reads_back c =
    let row = c.args.row.now in
    let made = c.in_ok-cells_of.ensures in
    ap (row_in row.partition) made.cells ∙ cells_again row c.args.file_id.now c.requires.own made.time made.place
