use Rattle.std.proofs.Common.{◌≡◌, map, take}
use Rattle.avro_schema.specs.AvroTypes.{field_of}
use Rattle.row_values.specs.Fields.{typed_field}
use Rattle.row_values.proofs.flat_field.flat_fields.Given as goal

-- the fields so far
abbrev pub invariant-loop-field : goal.invariant-loop-field
invariant-loop-field l = map typed_field l.flat ≡ map field_of (take l.field-index l.fields)
