use Rattle.row_bodies.proofs.ReadingLemmas.{second_cell}
use Rattle.row_bodies.proofs.cells.nullable_cell_at.Goals as goal

pub returns-then-is_there : goal.returns-then-is_there
returns-then-is_there c = second_cell c.args.cell c.args.bytes.now c.in_ok-is_there.rest.now c.cell_at.result (rw c.if-is_there.true at c.in_ok-is_there.ensures) c.cell_at.ensures
