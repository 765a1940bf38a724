-- Entries and places as the program has them; for private clauses.
use Rattle.std.specs.Prelude.{option_map}
use Rattle.avro_schema.specs.AvroTypes.{AvroType}
use Rattle.table_props.specs.declared.entries.Entries as lent
use Rattle.table_props.specs.declared.places.Places as found
use Rattle.table_props.specs.PropsTexts.{Entries, Places, Told}

abbrev pub entries_view : lent.Entries → Entries
entries_view e = record {
  name = e.name.now;
  key_field = e.key_field.now;
  partition_field = e.partition_field.now;
  ordering_field = option_map (λ name. name.now) e.ordering_field;
  buckets = e.buckets;
  schema = e.schema.now;
}

abbrev pub places_view : found.Places → Places
places_view p = record { key = p.key; partition = p.partition; ordering = p.ordering }

-- what entries say under a schema, with the places of the fields that they name
abbrev pub told_by : Entries → AvroType → Places → Told
told_by e schema p = record {
  name = e.name;
  schema = schema;
  key = p.key;
  partition = p.partition;
  ordering = p.ordering;
  buckets = e.buckets;
}
