use Rattle.std.proofs.Common.{List, Result}
use Rattle.payload_merge.specs.declared.row.Write.{Write}
use Rattle.table_history.specs.declared.step.PartitionSlots.{PartitionSlots}
use Rattle.upsert_writer.specs.Batches.{Refusal, batch_writes}
use Rattle.upsert_writer.specs.Blocks.{BlockForm, HoldsEach}
use Rattle.upsert_writer.specs.Slots.{AreSlotsOf}
use Rattle.upsert_writer.proofs.Refusals.{not_made, of_made, written}
use Rattle.upsert_writer.proofs.writer.write_batch.Goals as goal

pub write_all-requires-clause-asks : goal.write_all-requires-clause-asks
write_all-requires-clause-asks g c =
    let made : Result (List Write) Refusal = batch_writes (record { row = g.K.TableCodec.row_made c.args.codec.now; is_ordered = g.K.TableCodec.is_ordered c.args.codec.now }) c.args.batch in
    let P : List Write → Type 0 = λ writes. (slots : List PartitionSlots) → AreSlotsOf writes slots → g.T.Work.asks (g.T.Steps.job c.args.steps.now) slots in
    of_made P made c.in-Ok.writes c.in-Ok.ensures.made c.requires.asks

pub write_all-requires-clause-holds : goal.write_all-requires-clause-holds
write_all-requires-clause-holds g c =
    let form : BlockForm = record { reading = g.K.RowCodec.block_rows c.args.codec.now; table = g.K.TableCodec.table_name c.args.codec.now; schema = g.K.TableCodec.schema c.args.codec.now } in
    let made : Result (List Write) Refusal = batch_writes (record { row = g.K.TableCodec.row_made c.args.codec.now; is_ordered = g.K.TableCodec.is_ordered c.args.codec.now }) c.args.batch in
    let P : List Write → Type 0 = HoldsEach g.T.Work.holds (g.T.Steps.job c.args.steps.now) form in
    of_made P made c.in-Ok.writes c.in-Ok.ensures.made c.requires.holds

pub returns-in-Ok-clause-answer : goal.returns-in-Ok-clause-answer
returns-in-Ok-clause-answer g c =
    let form : BlockForm = record { reading = g.K.RowCodec.block_rows c.args.codec.now; table = g.K.TableCodec.table_name c.args.codec.now; schema = g.K.TableCodec.schema c.args.codec.now } in
    let made : Result (List Write) Refusal = batch_writes (record { row = g.K.TableCodec.row_made c.args.codec.now; is_ordered = g.K.TableCodec.is_ordered c.args.codec.now }) c.args.batch in
    written form made c.in-Ok.writes _ _ c.in-Ok.ensures.made (record { answers = c.write_all.ensures.answer; wrote = c.write_all.ensures.wrote })

pub returns-in-Err-clause-answer : goal.returns-in-Err-clause-answer
returns-in-Err-clause-answer g c =
    let form : BlockForm = record { reading = g.K.RowCodec.block_rows c.args.codec.now; table = g.K.TableCodec.table_name c.args.codec.now; schema = g.K.TableCodec.schema c.args.codec.now } in
    let made : Result (List Write) Refusal = batch_writes (record { row = g.K.TableCodec.row_made c.args.codec.now; is_ordered = g.K.TableCodec.is_ordered c.args.codec.now }) c.args.batch in
    not_made form made _ _ c.requires.new c.in-Err.ensures.made
