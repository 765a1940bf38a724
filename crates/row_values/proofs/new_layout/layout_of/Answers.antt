use Rattle.std.proofs.Common.{sym, ap, ◌∙◌}
use Rattle.avro_schema.specs.AvroTypes.{type_of}
use Rattle.table_props.specs.Flat.{first_not_flat}
use Rattle.row_values.proofs.FieldLemmas.{answers_not_flat, fields_named}
use Rattle.row_values.proofs.new_layout.layout_of.Goals as goal

pub returns-in-Some : goal.returns-in-Some
returns-in-Some c =
    let named = fields_named (type_of c.args.props.now.schema) c.args.record_name.now c.args.fields.now c.requires.named in
    answers_not_flat c.args.props.now c.not_flat.result c.in-Some.place c.not_flat.ensures (ap first_not_flat named ∙ sym c.first_not_flat.ensures ∙ c.in-Some.is)
