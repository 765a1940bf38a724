use Rattle.avro_schema.specs.AvroTypes.{type_of}
use Rattle.avro_value.proofs.DecodeLemmas.{fits_by, found_by, only_by, not_refused}
use Rattle.avro_value.proofs.reading.decode.Goals as goal

pub returns-in-Ok-clause-found : goal.returns-in-Ok-clause-found
returns-in-Ok-clause-found c =
    rw c.saturating_sub.ensures (found_by (type_of c.args.schema.now) c.args.bytes.now c.in-Ok.value c.in-Ok.after.left c.in-Ok.after.bytes.now c.in-Ok.ensures)

pub returns-in-Ok-clause-only : goal.returns-in-Ok-clause-only
returns-in-Ok-clause-only c = λ prefix rest v parts is few.
    let same = only_by (type_of c.args.schema.now) c.args.bytes.now c.in-Ok.value c.in-Ok.after.left c.in-Ok.after.bytes.now c.in-Ok.ensures prefix rest v parts is few in
    (tt, rw c.saturating_sub.ensures same)

pub returns-in-Err-Field-clause-only : goal.returns-in-Err-Field-clause-only
returns-in-Err-Field-clause-only c = λ prefix rest v parts is few.
    not_refused (type_of c.args.schema.now) c.args.bytes.now c.in-Err-Field.error (rw c.in-Err-Field.field-0-is at c.in-Err-Field.ensures) prefix rest v parts is few

pub returns-in-Ok-clause-fits : goal.returns-in-Ok-clause-fits
returns-in-Ok-clause-fits c =
    fits_by (type_of c.args.schema.now) c.args.bytes.now c.in-Ok.value c.in-Ok.after.left c.in-Ok.after.bytes.now c.in-Ok.ensures
