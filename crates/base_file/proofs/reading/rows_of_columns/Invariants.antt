use Rattle.std.proofs.Common.{◌≡◌, ◌≤◌, Some, map, take, reverse}
use Rattle.base_file.specs.BaseFiles.{rows_of_cells}
use Rattle.base_file.proofs.LastRowLemmas.{cells_from}
use Rattle.base_file.proofs.reading.rows_of_columns.Given as goal

abbrev pub invariant-loop-left : goal.invariant-loop-left
invariant-loop-left g l =
    (l.left ≤ l.count) × (l.columns.items ≡ map (take l.left) l.initial.columns.items)
    × (rows_of_cells (g.K.RowCodec.base_row l.codec) l.partition (cells_from l.initial.columns.items l.left l.count) ≡ Some (reverse l.backwards.items))

abbrev pub decreases-loop-left : goal.decreases-loop-left
decreases-loop-left g l = l.left
