use Rattle.std.proofs.Common.{take}
use Rattle.table_query.specs.GroupReading.{all_from, one_each, counts}
use Rattle.table_query.specs.Parts.{Folds}
use Rattle.table_query.specs.GroupReading.{log_gives}
use Rattle.table_query.proofs.folding.fold_logs.Given as goal

abbrev pub invariant-loop-log : goal.invariant-loop-log
invariant-loop-log g l =
    Folds (all_from one_each (log_gives (record { rows = g.K.RowCodec.block_rows l.codec; table = g.K.TableCodec.table_name l.codec }) l.group (counts l.completed.keys l.void.keys)) 0 (take l.log-index l.logs)) l.initial.rows l.rows
