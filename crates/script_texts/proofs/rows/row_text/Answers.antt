use Rattle.script_texts.proofs.RowParts.{row_written}
use Rattle.script_texts.proofs.rows.row_text.Goals as goal

pub returns-in-Ok : goal.returns-in-Ok
returns-in-Ok c = row_written c.args.codec.now.records.own c.args.row.now c.in-Ok.text c.requires c.in-Ok.ensures.text
