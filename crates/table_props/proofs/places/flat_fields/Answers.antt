use Rattle.std.proofs.Common.{List, map, is_none, sym, ap, ◌∙◌}
use Rattle.avro_schema.specs.declared.schema.Field.{Field}
use Rattle.avro_schema.specs.AvroTypes.{field_of}
use Rattle.table_props.specs.Flat.{first_not_flat}
use Rattle.table_props.proofs.FieldLemmas.{is_flat_record, fields_in_record}
use Rattle.table_props.proofs.places.flat_fields.Goals as goal

pub returns-in-None : goal.returns-in-None
returns-in-None c = (
  is_flat_record c.args.schema.now _ c.in-Record.fields c.in-Record.is
      ∙ ap is_none (ap (λ (fs : List Field). first_not_flat (map field_of fs)) (sym c.as_slice.ensures) ∙ sym c.first_not_flat.ensures ∙ c.in-None.is),
  ap (map field_of) c.as_slice-in-None.ensures ∙ fields_in_record c.args.schema.now _ c.in-Record.fields c.in-Record.is,
)

pub returns-in-Some : goal.returns-in-Some
returns-in-Some c =
    is_flat_record c.args.schema.now _ c.in-Record.fields c.in-Record.is
    ∙ ap is_none (ap (λ (fs : List Field). first_not_flat (map field_of fs)) (sym c.as_slice.ensures) ∙ sym c.first_not_flat.ensures ∙ c.in-Some.is)
