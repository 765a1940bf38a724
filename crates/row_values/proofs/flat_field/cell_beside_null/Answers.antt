use Rattle.std.proofs.Common.{sym, ◌∙◌}
use Rattle.row_values.proofs.FieldLemmas.{no_pair, no_null}
use Rattle.row_values.proofs.flat_field.cell_beside_null.Goals as goal
use Rattle.row_values.proofs.flat_field.cell_beside_null.Goals.{then-branches-ne2-via-then-branches-ne2, then-branches-ne2-via-else-branches-ne2+then-not-is_null}

pub returns-then-branches-ne2 : goal.returns-then-branches-ne2
returns-then-branches-ne2 c =
    elim c.then-branches-ne2.branch [
      | then-branches-ne2-via-then-branches-ne2 w ↦ no_pair c.args.branches.now w.if-branches-ne2.true
      | then-branches-ne2-via-else-branches-ne2+then-not-is_null w ↦ no_null c.args.branches.now w.index-branches-0.result w.index-branches-0.is (sym w.is_null.ensures ∙ w.if-not-is_null.true)
    ]
