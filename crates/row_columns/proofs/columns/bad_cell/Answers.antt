use Rattle.std.proofs.Common.{◌≡◌, ℕ, Some, refl, sym, ap, ◌∙◌, arith}
use Rattle.row_columns.specs.Base.{bad_cell}
use Rattle.row_columns.specs.Readers.{is_good}
use Rattle.row_columns.proofs.PlaceLemmas.{bad_here, bad_next, bad_over, bad_none}
use Rattle.row_columns.proofs.columns.bad_cell.Goals as goal

pub returns-then-not-is_good : goal.returns-then-not-is_good
returns-then-not-is_good c =
    let i = c.loop-place.place in
    let column = c.index-columns-place.result in
    sym (bad_here i i c.args.columns.now c.args.cells.now column c.loop-place-test.true c.index-columns-place.is (ap (is_good column) (sym c.cell_at.ensures) ∙ sym c.if-not-is_good.ensures))
    ∙ c.loop-place.invariant

pub loop-place-preserved : goal.loop-place-preserved
loop-place-preserved c =
    let i = c.loop-place.place in
    let column = c.index-columns-place.result in
    bad_next i c.args.columns.now c.args.cells.now column c.loop-place-test.true c.index-columns-place.is (ap (is_good column) (sym c.cell_at.ensures) ∙ sym c.if-not-is_good.ensures)
    ∙ c.loop-place.invariant

pub returns : goal.returns
returns c =
    sym (bad_none c.loop-place.place c.loop-place.place c.args.columns.now c.args.cells.now c.loop-place-test.false (omega arith)) ∙ c.loop-place.invariant

pub returns-then-cells-columns : goal.returns-then-cells-columns
returns-then-cells-columns c =
    let i = c.loop-place.place in
    let columns = c.args.columns.now in
    let cells = c.args.cells.now in
    let told = bad_over i i columns cells c.loop-place-test.false (omega arith) ∙ refl in
    let same : (n : ℕ) → n ≡ i → Some n ≡ bad_cell 0 columns cells = λ n e. ap Some e ∙ sym told ∙ c.loop-place.invariant in
    same _ (omega arith)
