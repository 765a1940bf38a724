use Rattle.std.proofs.Common.{refl, sym, ap, ◌∙◌}
use Rattle.std.proofs.lemmas.Result.{err_from_is_err_and}
use Rattle.hudi_base.specs.declared.value.Value.{Record}
use Rattle.row_values.proofs.CellLemmas.{have_cells}
use Rattle.row_values.proofs.row_layout.RowLayout.row_of.Goals as goal

pub returns-in_err-cells : goal.returns-in_err-cells
returns-in_err-cells c =
    let h = have_cells c.args.self.now.fields c.requires.0 c.requires.2 in
    let p = err_from_is_err_and c.from_residual.result c.from_residual.ensures.1 in
    (h.cells, h.fit, c.requires.1 ∙ ap Record (sym h.whole), rw (p.1, p.2) refl)
