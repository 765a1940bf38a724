use Rattle.std.proofs.Common.{arith}
use Rattle.std.proofs.lemmas.List.{length-map}
use Rattle.row_values.specs.Cells.{cell_view, cells_view}
use Rattle.row_records.proofs.CellLemmas.{parts_of}
use Rattle.row_columns.proofs.rows.timed_row.Goals as goal

pub row_head-requires : goal.row_head-requires
row_head-requires c =
    let parts = parts_of c.args.layout.now.fields (cells_view c.args.cells.now) c.requires in omega (arith, parts.long, length-map c.args.cells.now cell_view)
