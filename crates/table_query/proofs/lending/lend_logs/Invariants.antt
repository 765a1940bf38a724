use Rattle.std.proofs.Common.{take, IfOk}
use Rattle.table_query.specs.GroupReading.{all_from, counts, log_gives, one_each}
use Rattle.table_query.specs.Parts.{ArePuts, Folds, lent_table}
use Rattle.table_query.proofs.lending.lend_logs.Given as goal

abbrev pub invariant-loop-log : goal.invariant-loop-log
invariant-loop-log g l = record {
  puts : IfOk (all_from one_each (log_gives (record { rows = g.K.RowCodec.block_rows l.codec; table = g.K.TableCodec.table_name l.codec }) l.group (counts l.completed.keys l.void.keys)) 0 (take l.log-index l.logs)) ArePuts;
  folds : Folds (all_from one_each (log_gives (record { rows = g.K.RowCodec.block_rows l.codec; table = g.K.TableCodec.table_name l.codec }) l.group (counts l.completed.keys l.void.keys)) 0 (take l.log-index l.logs))
      (lent_table l.group.partition l.initial.writes.items) (lent_table l.group.partition l.writes.items);
}
