use Rattle.avro_value.proofs.Values.{written-Text}
use Rattle.row_records.proofs.writing.put_text.Goals as goal

pub returns : goal.returns
returns c = rw (written-Text c.args.text.now) c.put_long_prefixed.ensures.ok
