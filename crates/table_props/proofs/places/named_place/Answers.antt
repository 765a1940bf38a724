use Rattle.std.proofs.Common.{ℕ, List, sym, ◌∙◌}
use Rattle.std.specs.Str.{bytes_eq}
use Rattle.avro_schema.specs.AvroTypes.{AvroType, field_of}
use Rattle.table_props.proofs.FieldLemmas.{position-map}
use Rattle.table_props.proofs.places.named_place.Goals as goal

pub returns-clause-place : goal.returns-clause-place
returns-clause-place c = c.first_named.ensures ∙ sym (position-map (λ (f : List ℕ × AvroType). bytes_eq f.0 c.args.name.now) field_of c.args.fields.now)
