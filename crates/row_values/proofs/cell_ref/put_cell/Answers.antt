use Rattle.std.proofs.Common.{sym, append-nil, arith}
use Rattle.std.proofs.lemmas.Grind.{common_steps}
use Rattle.avro_value.proofs.Values.{written-Null, written-Boolean, written-Int, written-Long, written-Bytes, written-Text}
use Rattle.row_values.proofs.cell_ref.put_cell.Goals as goal

pub returns-in-Null : goal.returns-in-Null
returns-in-Null c = rw (c.in-Null.is, written-Null) (sym (append-nil _))

pub returns-in_ok-push-in-Boolean : goal.returns-in_ok-push-in-Boolean
returns-in_ok-push-in-Boolean c = rw (c.in-Boolean.is, written-Boolean c.in-Boolean.truth) (grind (arith, common_steps))

pub returns-in-Int : goal.returns-in-Int
returns-in-Int c = rw (c.in-Int.is, written-Int c.in-Int.number) (grind (arith, common_steps))

pub returns-in-Long : goal.returns-in-Long
returns-in-Long c = rw (c.in-Long.is, written-Long c.in-Long.number) (grind (arith, common_steps))

pub returns-in-Bytes : goal.returns-in-Bytes
returns-in-Bytes c = rw (c.in-Bytes.is, written-Bytes c.in-Bytes.content.now) (grind (arith, common_steps))

pub returns-in-Text : goal.returns-in-Text
returns-in-Text c = rw (c.in-Text.is, written-Text c.in-Text.text.now) (grind (arith, common_steps))
