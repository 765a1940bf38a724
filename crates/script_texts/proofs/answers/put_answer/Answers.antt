use Rattle.script_texts.proofs.RowParts.{own_among}
use Rattle.script_texts.proofs.answers.put_answer.Goals as goal

pub put_snapshot-requires : goal.put_snapshot-requires
put_snapshot-requires c = own_among c.args.codec.now.records.own c.args.reply.now _ _ c.as_slice.result.now c.in-Rows.is c.as_slice.ensures c.requires
