-- The JSON of types: lists of them.
use Rattle.std.proofs.Common.{◌≡◌, List, [], ◌∷◌, map, refl, ap}
use Rattle.serde_json.specs.Data.{item}
use Rattle.serde_json.specs.View.{items_of}
use Rattle.avro_schema.specs.declared.schema.Schema.{Schema}
use Rattle.avro_schema.specs.declared.schema.Field.{Field}
use Rattle.avro_schema.specs.AvroTypes.{type_of, field_of, branches_of, fields_of}
use Rattle.avro_schema.specs.SchemaTexts.{type_json, branches_json, fields_json, field_json}

pub items_of_branches : (branches : List Schema) → branches_json (branches_of (map type_of branches)) ≡ items_of (map (λ branch. type_json (type_of branch)) branches)
items_of_branches [] = refl
items_of_branches (x ∷ xs) = ap (item (type_json (type_of x))) (items_of_branches xs)

pub items_of_fields : (fields : List Field) → fields_json (fields_of (map field_of fields)) ≡ items_of (map (λ field. field_json (field_of field).0 (type_json (field_of field).1)) fields)
items_of_fields [] = refl
items_of_fields (x ∷ xs) = ap (item (field_json (field_of x).0 (type_json (field_of x).1))) (items_of_fields xs)
