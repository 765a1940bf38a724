use Rattle.table_history.specs.JobLaw.{entries_of}
use Rattle.table_jobs.proofs.Seen.{goes_on}
use Rattle.table_query.specs.GroupReading.{TableReading}
use Rattle.table_query.proofs.OwnRows.{answers_have}
use Rattle.table_query.proofs.Replies.{answered}
use Rattle.table_query.proofs.snapshots.snapshot.Goals as goal

pub returns-in-Err-clause-answer : goal.returns-in-Err-clause-answer
returns-in-Err-clause-answer g c = c.in-Err.ensures.view (record { rows = g.K.RowCodec.block_rows c.args.codec.now; table = g.K.TableCodec.table_name c.args.codec.now })

pub returns-in-Ok-rows-clause-seen : goal.returns-in-Ok-rows-clause-seen
returns-in-Ok-rows-clause-seen g c = goes_on _ _ _ (goes_on _ _ _ c.pin.ensures.seen c.rows_of_view-rows.ensures.seen) c.unpin.ensures.seen

pub returns-clause-seen : goal.returns-clause-seen
returns-clause-seen g c = goes_on _ _ _ (goes_on _ _ _ c.pin.ensures.seen c.rows_of_view-rows.ensures.seen) c.unpin.ensures.seen

pub returns-in-Ok-rows-clause-answer : goal.returns-in-Ok-rows-clause-answer
returns-in-Ok-rows-clause-answer g c =
    let reading : TableReading = record { rows = g.K.RowCodec.block_rows c.args.codec.now; table = g.K.TableCodec.table_name c.args.codec.now } in
    answered reading c.args.at c.in-Ok.view (entries_of (g.T.Steps.mine c.rows_of_view-rows.new.steps)) (entries_of (g.T.Steps.mine c.unpin.new.steps)) _
    c.in-Ok-rows.ensures.read c.unpin.ensures.gone (c.rows_of_view-rows.ensures.pins c.args.at c.pin.ensures.pins)

pub returns-clause-answer : goal.returns-clause-answer
returns-clause-answer g c =
    let reading : TableReading = record { rows = g.K.RowCodec.block_rows c.args.codec.now; table = g.K.TableCodec.table_name c.args.codec.now } in
    answered reading c.args.at c.in-Ok.view (entries_of (g.T.Steps.mine c.rows_of_view-rows.new.steps)) (entries_of (g.T.Steps.mine c.unpin.new.steps)) _
    c.in-Err-rows.ensures.read c.unpin.ensures.gone (c.rows_of_view-rows.ensures.pins c.args.at c.pin.ensures.pins)

pub returns-in-Err-clause-own : goal.returns-in-Err-clause-own
returns-in-Err-clause-own g c =
    answers_have (g.K.RowCodec.own_row c.args.codec.now) (record { rows = g.K.RowCodec.block_rows c.args.codec.now; table = g.K.TableCodec.table_name c.args.codec.now })
    (g.met.K.RowCodec.own_rows_are_read c.args.codec.now) c.args.at _ _ (returns-in-Err-clause-answer g c)

pub returns-in-Ok-rows-clause-own : goal.returns-in-Ok-rows-clause-own
returns-in-Ok-rows-clause-own g c =
    answers_have (g.K.RowCodec.own_row c.args.codec.now) (record { rows = g.K.RowCodec.block_rows c.args.codec.now; table = g.K.TableCodec.table_name c.args.codec.now })
    (g.met.K.RowCodec.own_rows_are_read c.args.codec.now) c.args.at _ _ (returns-in-Ok-rows-clause-answer g c)

pub returns-clause-own : goal.returns-clause-own
returns-clause-own g c =
    answers_have (g.K.RowCodec.own_row c.args.codec.now) (record { rows = g.K.RowCodec.block_rows c.args.codec.now; table = g.K.TableCodec.table_name c.args.codec.now })
    (g.met.K.RowCodec.own_rows_are_read c.args.codec.now) c.args.at _ _ (returns-clause-answer g c)
