use Rattle.table_history.specs.JobLaw.{entries_of}
use Rattle.table_query.specs.GroupReading.{TableReading, view_writes}
use Rattle.table_query.specs.ReadBytes.{bytes_read}
use Rattle.table_query.proofs.Ends.{ordered_rows, rows_answer}
use Rattle.table_query.proofs.groups.rows_of_several.Goals as goal

pub returns-in-Ok-clause-read : goal.returns-in-Ok-clause-read
returns-in-Ok-clause-read g c =
    let reading : TableReading = record { rows = g.K.RowCodec.block_rows c.args.codec.now; table = g.K.TableCodec.table_name c.args.codec.now } in
    let view = c.args.view.now in
    let mine = entries_of (g.T.Steps.mine c.fold_groups.new.steps) in
    rows_answer reading view mine c.rows_in_order.result c.in-Ok.ensures.read.0
    (ordered_rows (view_writes reading view.completed (bytes_read mine) view.groups) c.in-Ok.rows c.rows_in_order.result c.in-Ok.ensures.read.1 c.rows_in_order.ensures)
