use Rattle.std.proofs.Common.{List, arith}
use Rattle.log_block.specs.declared.block.Block.{Block}
use Rattle.payload_merge.specs.Fold.{RowTable}
use Rattle.payload_merge.specs.declared.row_refs.WriteRef.{WriteRef}
use Rattle.table_query.specs.GroupReading.{TableReading, block_gives, counts, one_each}
use Rattle.table_query.specs.Parts.{lent_table}
use Rattle.table_query.proofs.Following.{folds_more, numbers}
use Rattle.table_query.proofs.Puts.{puts_more}
use Rattle.table_query.proofs.lending.lend_log.Goals as goal

pub loop-number-preserved : goal.loop-number-preserved
loop-number-preserved g c =
    let reading : TableReading = record { rows = g.K.RowCodec.block_rows c.args.codec.now; table = g.K.TableCodec.table_name c.args.codec.now } in
    let gives = block_gives reading c.args.group.now (counts c.args.completed.now.keys c.args.void.now.keys) in
    let left : List WriteRef → RowTable = lent_table c.args.group.now.partition in
    let blocks : List Block = c.as_slice-blocks.result.now in
    let i = c.loop-number.number in
    let within = numbers i blocks (omega (arith, c.loop-number-test.true)) in
    record {
      puts = puts_more one_each gives i i blocks c.index-blocks-number.result c.loop-number-test.true c.index-blocks-number.is within c.loop-number.invariant.puts c.in_ok-lend_counted.ensures.puts;
      folds = folds_more one_each gives i i blocks c.index-blocks-number.result (left c.args.writes.now.items) (left c.loop-number.writes.items) (left c.lend_counted.new.writes.items)
          c.loop-number-test.true c.index-blocks-number.is within c.loop-number.invariant.folds c.in_ok-lend_counted.ensures.folds;
    }
