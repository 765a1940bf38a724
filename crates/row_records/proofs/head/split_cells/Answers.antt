use Rattle.std.proofs.Common.{sym, ap, ◌∙◌}
use Rattle.std.specs.List.{drop-map}
use Rattle.std.proofs.lemmas.List.{take-map}
use Rattle.row_values.specs.Cells.{cell_view, cells_view}
use Rattle.row_records.proofs.head.split_cells.Goals as goal

pub returns-clause-before : goal.returns-clause-before
returns-clause-before c = ap cells_view c.split_at.ensures.front ∙ sym (take-map cell_view 5 c.args.cells.now)

pub returns-clause-own : goal.returns-clause-own
returns-clause-own c = ap cells_view c.split_at.ensures.back ∙ sym (drop-map cell_view 5 c.args.cells.now)
