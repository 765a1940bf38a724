-- The line of an `init`: the table that it makes. This project's own.
use Rattle.std.specs.Prelude.{ℕ, List, [], ◌∷◌, Option, Some, None, option_map, option_and_then, Result, Ok, codes}
use Rattle.serde_json.specs.Data.{Data, null}
use Rattle.serde_json.specs.Find.{get, as_str}
use Rattle.table_forms.specs.JsonObjects.{text_at, number_at}
use Rattle.avro_schema.specs.AvroTypes.{AvroType}
use Rattle.avro_schema.specs.SchemaTexts.{type_in}
use Rattle.table_props.specs.Flat.{fields_in, is_flat, is_rank_type, is_string_type}
use Rattle.table_props.specs.Keys.{is_bucket_count, is_table_name}
use Rattle.table_props.specs.PropsTexts.{Told, ok_of, only_if, place_of}
use Rattle.script_jobs.specs.declared.script.LineCause.{LineCause}
use Rattle.script_jobs.specs.Causes.{◌>>=◌, wanted, with_only}

-- the name of a table
abbrev pub name_in : Data → Option (List ℕ)
name_in line = option_and_then (λ name. only_if (is_table_name name) (Some name)) (text_at (codes "name") line)

-- a flat schema, which stands in the line as JSON
abbrev pub flat_type : AvroType → Option AvroType
flat_type type = only_if (is_flat type) (Some type)

abbrev pub json_schema : Data → Option AvroType
json_schema d = ok_of (type_in d)

abbrev pub schema_in : Data → Option AvroType
schema_in line = option_and_then flat_type (option_and_then json_schema (get (codes "schema") line))

-- the place of the string field that a member names
abbrev pub string_field_at : List ℕ → AvroType → Data → Option ℕ
string_field_at name schema line =
    option_and_then (λ field. place_of is_string_type field (fields_in schema)) (text_at name line)

-- the ordering field: null for none, or the name of a whole number's field
abbrev pub ordering_of : AvroType → Data → Option (Option ℕ)
ordering_of schema null = Some None
ordering_of schema d =
    option_and_then (λ field. option_map Some (place_of is_rank_type field (fields_in schema))) (as_str d)

abbrev pub ordering_in : AvroType → Data → Option (Option ℕ)
ordering_in schema line = option_and_then (ordering_of schema) (get (codes "ordering") line)

-- how many file groups a new partition begins with
abbrev pub buckets_in : Data → Option ℕ
buckets_in line = option_and_then (λ count. only_if (is_bucket_count count) (Some count)) (number_at (codes "buckets") line)

-- the places of the fields that the line names
pub record Places : Type 0 where
  pub key : ℕ
  pub partition : ℕ
  pub ordering : Option ℕ

unfoldable pub places_in : AvroType → Data → Result Places LineCause
places_in schema line = do
  key ← wanted (codes "key") (string_field_at (codes "key") schema line)
  partition ← wanted (codes "partition") (string_field_at (codes "partition") schema line)
  ordering ← wanted (codes "ordering") (ordering_in schema line)
  Ok (record { key = key; partition = partition; ordering = ordering })

abbrev pub init_members : List (List ℕ)
init_members =
    codes "job" ∷ codes "name" ∷ codes "schema" ∷ codes "key" ∷ codes "partition" ∷ codes "ordering" ∷ codes "buckets" ∷ []

abbrev pub told : List ℕ → AvroType → Places → ℕ → Told
told name schema places buckets = record {
  name = name;
  schema = schema;
  key = places.key;
  partition = places.partition;
  ordering = places.ordering;
  buckets = buckets;
}

-- the table that the line makes, or the first member that is wrong
unfoldable pub init_of : Data → Result Told LineCause
init_of line = do
  name ← wanted (codes "name") (name_in line)
  schema ← wanted (codes "schema") (schema_in line)
  places ← places_in schema line
  buckets ← wanted (codes "buckets") (buckets_in line)
  with_only init_members line (told name schema places buckets)
