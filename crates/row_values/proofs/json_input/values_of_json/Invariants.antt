use Rattle.std.proofs.Common.{take}
use Rattle.std.specs.List.{AllZip}
use Rattle.serde_json.specs.View.{view}
use Rattle.avro_schema.specs.Fits.{Fits}
use Rattle.row_values.specs.Fields.{field_type}
use Rattle.row_values.specs.JsonRows.{values_of_json}
use Rattle.row_values.proofs.JsonLemmas.{Left}
use Rattle.row_values.proofs.json_input.values_of_json.Given as goal

-- the values so far, and those of the fields that are left
abbrev pub invariant-loop-field : goal.invariant-loop-field
invariant-loop-field l = record {
  left : Left l.only (view l.json) l.fields l.field-index l.found (values_of_json l.fields (view l.json));
  fits : AllZip (λ f v. Fits (field_type f) v) (take l.field-index l.fields) l.found;
}
