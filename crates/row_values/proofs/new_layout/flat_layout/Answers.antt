use Rattle.std.proofs.Common.{List, ℕ, sym, ap, refl, ◌∙◌}
use Rattle.avro_schema.specs.AvroTypes.{AvroType, type_of, fields_of, record_of}
use Rattle.table_props.specs.Flat.{first_not_flat}
use Rattle.row_values.specs.Layouts.{is_record}
use Rattle.row_values.specs.Fields.{typed_fields}
use Rattle.row_values.proofs.FieldLemmas.{places_of, fields_named}
use Rattle.row_values.proofs.new_layout.flat_layout.Goals as goal

pub invariant_of-result : goal.invariant_of-result
invariant_of-result c =
    let props = c.args.props.now in
    let type = type_of props.schema in
    let named = fields_named type c.args.record_name.now c.args.fields.now c.requires.named in
    record { places = places_of props.key props.partition props.ordering c.in_ok-fields.fields type (is_record type) (c.in_ok-fields.ensures ∙ sym named) c.requires.places }

pub returns : goal.returns
returns c =
    let named = fields_named (type_of c.args.props.now.schema) c.args.record_name.now c.args.fields.now c.requires.named in
    record {
      table = c.in_ok-copy.ensures;
      type =
          ap (λ (n : List ℕ). record_of n (typed_fields c.in_ok-fields.fields)) c.in_ok-copy-2.ensures
          ∙ ap (λ (fs : List (List ℕ × AvroType)). record_of c.args.record_name.now (fields_of fs)) c.in_ok-fields.ensures
          ∙ sym c.requires.named;
      key = refl;
      partition = refl;
      ordering = refl;
      flat = ap first_not_flat named ∙ c.requires.flat;
    }
