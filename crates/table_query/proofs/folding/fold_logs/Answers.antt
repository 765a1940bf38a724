use Rattle.std.proofs.Common.{arith}
use Rattle.table_query.specs.GroupReading.{TableReading, one_each, log_gives, counts, logs_writes}
use Rattle.table_query.proofs.Following.{folds_more, numbers, stops}
use Rattle.table_query.proofs.Stops.{error_on}
use Rattle.table_query.proofs.folding.fold_logs.Goals as goal

pub returns-in-Err : goal.returns-in-Err
returns-in-Err g c =
    let reading : TableReading = record { rows = g.K.RowCodec.block_rows c.args.codec.now; table = g.K.TableCodec.table_name c.args.codec.now } in
    let gives = log_gives reading c.args.group.now (counts c.args.completed.now.keys c.args.void.now.keys) in
    let i = c.loop-log.log-index in
    error_on c.in-Err.reply (gives i c.log-item.result) (logs_writes reading c.args.group.now (counts c.args.completed.now.keys c.args.void.now.keys) c.args.logs.now)
    (λ d wrong. stops one_each gives i i c.args.logs.now c.log-item.result c.args.rows.now c.loop-log.rows d c.loop-log-test.true c.log-item.is (numbers i c.args.logs.now (omega (arith, c.loop-log-test.true))) c.loop-log.invariant wrong)
    c.in-Err.ensures

pub loop-log-preserved : goal.loop-log-preserved
loop-log-preserved g c =
    let reading : TableReading = record { rows = g.K.RowCodec.block_rows c.args.codec.now; table = g.K.TableCodec.table_name c.args.codec.now } in
    let gives = log_gives reading c.args.group.now (counts c.args.completed.now.keys c.args.void.now.keys) in
    let i = c.loop-log.log-index in
    folds_more one_each gives i i c.args.logs.now c.log-item.result c.args.rows.now c.loop-log.rows c.fold_log.new.rows c.loop-log-test.true c.log-item.is (numbers i c.args.logs.now (omega (arith, c.loop-log-test.true)))
    c.loop-log.invariant c.in-Ok.ensures
