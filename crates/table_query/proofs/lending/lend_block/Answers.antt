use Rattle.std.proofs.Common.{◌≡◌, ◌++◌, subst, sym, IfOk}
use Rattle.log_block.specs.declared.block.Block.{Block}
use Rattle.table_jobs.specs.Places.{place_in}
use Rattle.table_query.specs.GroupReading.{TableReading, block_writes}
use Rattle.table_query.specs.Parts.{ArePuts}
use Rattle.table_query.proofs.LentWrites.{lends_data, on_some}
use Rattle.table_query.proofs.Puts.{any_some, data_puts}
use Rattle.table_query.proofs.lending.lend_block.Goals as goal

pub returns-in-Ok-Some-clause-folds : goal.returns-in-Ok-Some-clause-folds
returns-in-Ok-Some-clause-folds g c =
    let reading : TableReading = record { rows = g.K.RowCodec.block_rows c.args.codec.now; table = g.K.TableCodec.table_name c.args.codec.now } in
    let lent = rw c.in-Ok-Some.field-0-is at c.in-Ok-Some.ensures in
    on_some (c.add_all.new.writes.items ≡ c.args.writes.now.items ++ c.in-Ok-Some.lent.items) _ c.add_all.result
    (lends_data reading c.args.group.now c.in-Data.instant c.in-Data.schema c.in-Data.content c.as_slice.result.now c.args.id.now c.args.block.now c.args.writes.now.items c.add_all.new.writes.items c.in-Ok-Some.lent.items
    c.in-Data.is c.as_slice.ensures c.requires lent.1)
    c.add_all.ensures

pub returns-in-Ok-Some-clause-puts : goal.returns-in-Ok-Some-clause-puts
returns-in-Ok-Some-clause-puts g c =
    let reading : TableReading = record { rows = g.K.RowCodec.block_rows c.args.codec.now; table = g.K.TableCodec.table_name c.args.codec.now } in
    let P : Block → Type 0 = λ b. IfOk (block_writes reading c.args.group.now b) ArePuts in
    any_some c.add_all.result _ (subst P (sym c.in-Data.is) (data_puts (reading.rows (place_in reading.table c.in-Data.instant c.args.group.now) c.in-Data.content)))
