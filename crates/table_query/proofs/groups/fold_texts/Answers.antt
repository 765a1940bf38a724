use Rattle.table_query.specs.GroupReading.{TableReading, group_writes}
use Rattle.table_query.specs.Parts.{text_at}
use Rattle.table_query.proofs.Puts.{put_gives}
use Rattle.table_query.proofs.groups.fold_texts.Goals as goal

pub returns-in-Some : goal.returns-in-Some
returns-in-Some g c =
    let reading : TableReading = record { rows = g.K.RowCodec.block_rows c.args.codec.now; table = g.K.TableCodec.table_name c.args.codec.now } in
    put_gives (group_writes reading c.args.completed.now.keys (text_at c.args.texts.now) 0 c.args.group.now) c.in-Some.lent c.put_all.result c.args.rows.now c.put_all.new.rows
    c.in-Some.ensures.puts c.in-Some.ensures.rows c.put_all.ensures
