use Rattle.std.proofs.Common.{◌≡◌, map, take}
use Rattle.serde_json.specs.View.{view}
use Rattle.avro_schema.specs.AvroTypes.{type_of, field_of}
use Rattle.avro_schema.specs.SchemaTexts.{type_json, field_json}
use Rattle.avro_schema.proofs.text.+json.Given as goal

abbrev pub invariant-branches_json-loop-branch : goal.invariant-branches_json-loop-branch
invariant-branches_json-loop-branch l = map view l.values.items ≡ map (λ branch. type_json (type_of branch)) (take l.branch-index l.branches)

abbrev pub invariant-field_values-loop-field : goal.invariant-field_values-loop-field
invariant-field_values-loop-field l = map view l.values.items ≡ map (λ field. field_json (field_of field).0 (type_json (field_of field).1)) (take l.field-index l.fields)
