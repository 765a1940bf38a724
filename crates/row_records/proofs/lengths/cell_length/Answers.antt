use Rattle.std.proofs.Common.{refl, arith}
use Rattle.std.proofs.lemmas.Grind.{common_steps}
use Rattle.avro_value.proofs.Values.{written-Null, written-Boolean, written-Int, written-Long, written-Bytes, written-Text}
use Rattle.row_records.proofs.lengths.cell_length.Goals as goal

pub returns-in-Null-clause-exact : goal.returns-in-Null-clause-exact
returns-in-Null-clause-exact c = rw (c.in-Null.is, written-Null) refl

pub returns-in-Boolean-clause-exact : goal.returns-in-Boolean-clause-exact
returns-in-Boolean-clause-exact c = rw (c.in-Boolean.is, written-Boolean c.in-Boolean.field-0) refl

pub returns-in-Int-clause-exact : goal.returns-in-Int-clause-exact
returns-in-Int-clause-exact c = rw (c.in-Int.is, written-Int c.in-Int.number) (grind (arith, common_steps))

pub returns-in-Long-clause-exact : goal.returns-in-Long-clause-exact
returns-in-Long-clause-exact c = rw (c.in-Long.is, written-Long c.in-Long.number) (grind (arith, common_steps))

pub returns-in-Bytes-clause-exact : goal.returns-in-Bytes-clause-exact
returns-in-Bytes-clause-exact c = rw (c.in-Bytes.is, written-Bytes c.in-Bytes.content.now) c.content_length.ensures.exact

pub returns-in-Text-clause-exact : goal.returns-in-Text-clause-exact
returns-in-Text-clause-exact c = rw (c.in-Text.is, written-Text c.in-Text.text.now) (grind (arith, common_steps))
