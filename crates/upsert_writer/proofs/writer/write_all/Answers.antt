use Rattle.std.proofs.Common.{[], rules}
use Rattle.table_history.specs.JobLaw.{entries_of}
use Rattle.table_jobs.proofs.Seen.{goes_on}
use Rattle.std.proofs.lemmas.List.Elements.{All-same}
use Rattle.payload_merge.specs.declared.row.Write.{Write}
use Rattle.table_forms.specs.NameForms.{IsPartitionPath}
use Rattle.upsert_writer.specs.BatchWrites.{partition_of}
use Rattle.upsert_writer.proofs.PlacedWrites.{on_paths}
use Rattle.upsert_writer.proofs.WriterSteps.{no_step}
use Rattle.upsert_writer.specs.Blocks.{BlockForm}
use Rattle.upsert_writer.specs.Slots.{AreSlotsOf}
use Rattle.upsert_writer.specs.WriterSteps.{WritesBatch}
use Rattle.upsert_writer.proofs.writer.write_all.Goals as goal

pub slots_of-requires : goal.slots_of-requires
slots_of-requires g c =
    let P : Write → Type 0 = λ w. IsPartitionPath (partition_of w) in
    All-same P _ _ c.as_slice.ensures (on_paths (g.K.RowCodec.own_row c.args.codec.now) c.args.batch c.requires.ready.one_kind)

pub returns-clause-seen : goal.returns-clause-seen
returns-clause-seen g c =
    goes_on _ _ _ (goes_on _ _ _ (goes_on _ _ _ c.begin.ensures.seen c.enter.ensures.seen) c.write_parts.ensures.seen) c.finish.ensures.seen

pub returns-in-Err-clause-wrote : goal.returns-in-Err-clause-wrote
returns-in-Err-clause-wrote g c = c.begin.ensures.wrote _ _ (no_step _ _ [] _ c.requires.new tt)

pub returns-in-Err-enter-clause-wrote : goal.returns-in-Err-enter-clause-wrote
returns-in-Err-enter-clause-wrote g c =
    let asks : AreSlotsOf c.args.batch c.in-Ok.slots = search rules in
    c.enter.ensures.wrote _ _ asks (c.begin.ensures.wrote _ _ (no_step _ _ [] _ c.requires.new tt))

pub returns-in-Err-write_parts-clause-wrote : goal.returns-in-Err-write_parts-clause-wrote
returns-in-Err-write_parts-clause-wrote g c =
    let form : BlockForm = record { reading = g.K.RowCodec.block_rows c.args.codec.now; table = g.K.TableCodec.table_name c.args.codec.now; schema = g.K.TableCodec.schema c.args.codec.now } in
    let asks : AreSlotsOf c.args.batch c.in-Ok.slots = search rules in
    let entered : WritesBatch form c.args.batch (entries_of (g.T.Steps.mine c.enter.new.steps)) = c.enter.ensures.wrote form _ asks (c.begin.ensures.wrote form _ (no_step form _ [] _ c.requires.new tt)) in
    c.write_parts.ensures.wrote entered

pub returns-clause-wrote : goal.returns-clause-wrote
returns-clause-wrote g c =
    let form : BlockForm = record { reading = g.K.RowCodec.block_rows c.args.codec.now; table = g.K.TableCodec.table_name c.args.codec.now; schema = g.K.TableCodec.schema c.args.codec.now } in
    let asks : AreSlotsOf c.args.batch c.in-Ok.slots = search rules in
    let entered : WritesBatch form c.args.batch (entries_of (g.T.Steps.mine c.enter.new.steps)) = c.enter.ensures.wrote form _ asks (c.begin.ensures.wrote form _ (no_step form _ [] _ c.requires.new tt)) in
    c.finish.ensures.wrote form _ (c.write_parts.ensures.wrote entered)
