use Rattle.std.proofs.Common.{ℕ, List, not, sym, ◌∙◌}
use Rattle.avro_schema.specs.AvroTypes.{AvroType, field_of}
use Rattle.table_props.specs.Flat.{is_flat_field}
use Rattle.table_props.proofs.FieldLemmas.{position-map}
use Rattle.table_props.proofs.flat.first_not_flat.Goals as goal

pub returns : goal.returns
returns c = c.not_flat_place.ensures ∙ sym (position-map (λ (f : List ℕ × AvroType). not (is_flat_field f)) field_of c.args.fields.now)
