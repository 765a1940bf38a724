use Rattle.payload_merge.proofs.Tables.{no_rows}
use Rattle.payload_merge.proofs.row_map.RowMap.is_empty.Goals as goal

pub returns : goal.returns
returns c = no_rows c.args.self.now c.len.result c.len.ensures
