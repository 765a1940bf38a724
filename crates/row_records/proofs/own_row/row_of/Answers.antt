use Rattle.std.proofs.Common.{sym, subst, arith}
use Rattle.std.proofs.lemmas.List.{length-map}
use Rattle.row_values.specs.Cells.{AreCells, cell_view, cells_view}
use Rattle.row_records.proofs.CellLemmas.{parts_of}
use Rattle.row_records.proofs.own_row.row_of.Goals as goal

pub split_cells-requires : goal.split_cells-requires
split_cells-requires c =
    let parts = parts_of c.args.layout.now.fields (cells_view c.args.cells.now) c.requires in omega (arith, parts.long, length-map c.args.cells.now cell_view)

pub body_of-requires : goal.body_of-requires
body_of-requires c =
    let parts = parts_of c.args.layout.now.fields (cells_view c.args.cells.now) c.requires in
    subst (AreCells c.args.layout.now.fields) (sym c.split_cells.ensures.own) parts.own
