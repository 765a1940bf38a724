use Rattle.std.proofs.Common.{take}
use Rattle.table_query.specs.GroupReading.{all_from, one_each, counts}
use Rattle.table_query.specs.Parts.{Folds}
use Rattle.table_query.specs.GroupReading.{block_gives}
use Rattle.table_query.proofs.folding.fold_log.Given as goal

abbrev pub invariant-loop-number : goal.invariant-loop-number
invariant-loop-number g l =
    Folds (all_from one_each (block_gives (record { rows = g.K.RowCodec.block_rows l.codec; table = g.K.TableCodec.table_name l.codec }) l.group (counts l.completed.keys l.void.keys)) 0 (take l.number l.blocks)) l.initial.rows l.rows
