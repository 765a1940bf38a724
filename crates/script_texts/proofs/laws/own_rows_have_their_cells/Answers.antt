use Rattle.script_texts.proofs.RowParts.{their_cells}
use Rattle.script_texts.proofs.laws.own_rows_have_their_cells.Goals as goal

pub returns : goal.returns
returns c = their_cells
