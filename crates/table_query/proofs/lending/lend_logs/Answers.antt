use Rattle.std.proofs.Common.{List, arith}
use Rattle.payload_merge.specs.Fold.{RowTable}
use Rattle.payload_merge.specs.declared.row_refs.WriteRef.{WriteRef}
use Rattle.table_query.specs.GroupReading.{TableReading, counts, log_gives, one_each}
use Rattle.table_query.specs.Parts.{lent_table}
use Rattle.table_query.proofs.Following.{folds_more, numbers}
use Rattle.table_query.proofs.Puts.{puts_more}
use Rattle.table_query.proofs.lending.lend_logs.Goals as goal

pub loop-log-preserved : goal.loop-log-preserved
loop-log-preserved g c =
    let reading : TableReading = record { rows = g.K.RowCodec.block_rows c.args.codec.now; table = g.K.TableCodec.table_name c.args.codec.now } in
    let gives = log_gives reading c.args.group.now (counts c.args.completed.now.keys c.args.void.now.keys) in
    let left : List WriteRef → RowTable = lent_table c.args.group.now.partition in
    let i = c.loop-log.log-index in
    let within = numbers i c.args.logs.now (omega (arith, c.loop-log-test.true)) in
    record {
      puts = puts_more one_each gives i i c.args.logs.now c.log-item.result c.loop-log-test.true c.log-item.is within c.loop-log.invariant.puts c.in_ok-lend_log.ensures.puts;
      folds = folds_more one_each gives i i c.args.logs.now c.log-item.result (left c.args.writes.now.items) (left c.loop-log.writes.items) (left c.lend_log.new.writes.items)
          c.loop-log-test.true c.log-item.is within c.loop-log.invariant.folds c.in_ok-lend_log.ensures.folds;
    }
