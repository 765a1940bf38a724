use Rattle.std.proofs.Common.{take, IfOk}
use Rattle.table_query.specs.GroupReading.{all_from, block_gives, counts, one_each}
use Rattle.table_query.specs.Parts.{ArePuts, Folds, lent_table}
use Rattle.table_query.proofs.lending.lend_log.Given as goal

abbrev pub invariant-loop-number : goal.invariant-loop-number
invariant-loop-number g l = record {
  puts : IfOk (all_from one_each (block_gives (record { rows = g.K.RowCodec.block_rows l.codec; table = g.K.TableCodec.table_name l.codec }) l.group (counts l.completed.keys l.void.keys)) 0 (take l.number l.blocks)) ArePuts;
  folds : Folds (all_from one_each (block_gives (record { rows = g.K.RowCodec.block_rows l.codec; table = g.K.TableCodec.table_name l.codec }) l.group (counts l.completed.keys l.void.keys)) 0 (take l.number l.blocks))
      (lent_table l.group.partition l.initial.writes.items) (lent_table l.group.partition l.writes.items);
}
