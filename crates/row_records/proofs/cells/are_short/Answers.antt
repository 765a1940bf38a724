use Rattle.std.proofs.Common.{sym, ◌∙◌}
use Rattle.std.proofs.lemmas.List.Folds.{list_all-map}
use Rattle.row_values.specs.Cells.{cell_view}
use Rattle.row_records.specs.Records.{is_short_cell}
use Rattle.row_records.proofs.cells.are_short.Goals as goal

pub returns : goal.returns
returns c = c.each_is_short.ensures ∙ sym (list_all-map is_short_cell cell_view c.args.cells.now)
