use Rattle.std.proofs.Common.{subst, List, arith}
use Rattle.log_block.specs.declared.block.Block.{Block}
use Rattle.table_query.specs.GroupReading.{TableReading, all_from, one_each, block_gives, counts, log_writes, in_part}
use Rattle.table_query.specs.Parts.{IsErrorOf}
use Rattle.table_query.proofs.Following.{folds_more, numbers, stops}
use Rattle.table_query.proofs.Stops.{error_in_part, folds_part}
use Rattle.table_query.proofs.folding.fold_log.Goals as goal

pub returns-in-Err : goal.returns-in-Err
returns-in-Err g c =
    let reading : TableReading = record { rows = g.K.RowCodec.block_rows c.args.codec.now; table = g.K.TableCodec.table_name c.args.codec.now } in
    let gives = block_gives reading c.args.group.now (counts c.args.completed.now.keys c.args.void.now.keys) in
    let blocks : List Block = c.as_slice-blocks.result.now in
    let i = c.loop-number.number in
    let block : Block = c.index-blocks-number.result in
    let P : List Block → Type 0 = λ bs. IsErrorOf c.in-Err.reply (in_part c.args.log.now.name (log_writes reading c.args.group.now (counts c.args.completed.now.keys c.args.void.now.keys) bs)) in
    subst P c.as_slice-blocks.ensures
    (error_in_part c.in-Err.reply c.args.log.now.name (gives i block) (all_from one_each gives 0 blocks)
    (λ n wrong. stops one_each gives i i blocks block c.args.rows.now c.loop-number.rows n c.loop-number-test.true c.index-blocks-number.is (numbers i blocks (omega (arith, c.loop-number-test.true))) c.loop-number.invariant wrong)
    c.in-Err.ensures)

pub loop-number-preserved : goal.loop-number-preserved
loop-number-preserved g c =
    let reading : TableReading = record { rows = g.K.RowCodec.block_rows c.args.codec.now; table = g.K.TableCodec.table_name c.args.codec.now } in
    let gives = block_gives reading c.args.group.now (counts c.args.completed.now.keys c.args.void.now.keys) in
    let blocks : List Block = c.as_slice-blocks.result.now in
    let i = c.loop-number.number in
    folds_more one_each gives i i blocks c.index-blocks-number.result c.args.rows.now c.loop-number.rows c.fold_counted.new.rows c.loop-number-test.true c.index-blocks-number.is (numbers i blocks (omega (arith, c.loop-number-test.true)))
    c.loop-number.invariant (folds_part c.args.log.now.name (gives i c.index-blocks-number.result) _ _ c.in-Ok.ensures)
