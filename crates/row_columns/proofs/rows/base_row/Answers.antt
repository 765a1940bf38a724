use Rattle.std.proofs.Common.{List, sym, ap, ◌∙◌}
use Rattle.hudi_base.specs.declared.column.Column.{Column}
use Rattle.row_columns.specs.Base.{bad_cell}
use Rattle.row_columns.proofs.BaseLemmas.{base_is_bad}
use Rattle.row_columns.proofs.rows.base_row.Goals as goal

pub returns-in-Some : goal.returns-in-Some
returns-in-Some c =
    base_is_bad c.args.layout.now c.args.partition.now c.args.cells.now c.in-Some.place
    (ap (λ (columns : List Column). bad_cell 0 columns c.args.cells.now) (sym c.requires) ∙ sym c.bad_cell.ensures ∙ c.in-Some.is)

pub good_row-requires : goal.good_row-requires
good_row-requires c = ap (λ (columns : List Column). bad_cell 0 columns c.args.cells.now) (sym c.requires) ∙ sym c.bad_cell.ensures ∙ c.in-None.is
