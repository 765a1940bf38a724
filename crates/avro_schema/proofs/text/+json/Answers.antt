use Rattle.avro_schema.proofs.TypeJson.{items_of_branches, items_of_fields}
use Rattle.avro_schema.proofs.text.+json.Goals as goal

pub union_json-returns : goal.union_json-returns
union_json-returns t c = rw (items_of_branches c.args.branches.now) c.branches_json.ensures

pub fields_json-returns : goal.fields_json-returns
fields_json-returns t c = rw (items_of_fields c.args.fields.now) c.field_values.ensures
