use Rattle.std.proofs.Common.{◌≡◌, map, take}
use Rattle.avro_schema.specs.AvroTypes.{field_of}
use Rattle.row_values.specs.Fields.{typed_field}
use Rattle.row_codec.proofs.schema.schema_fields.Given as goal

-- the fields so far
abbrev pub invariant-loop-field : goal.invariant-loop-field
invariant-loop-field l = map field_of l.found ≡ map typed_field (take l.field-index l.fields)
