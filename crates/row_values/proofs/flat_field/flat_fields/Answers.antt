use Rattle.row_values.proofs.FieldLemmas.{flat_at}
use Rattle.row_values.proofs.flat_field.flat_fields.Goals as goal

pub flat_field-requires : goal.flat_field-requires
flat_field-requires c = flat_at c.args.fields.now c.loop-field.field-index c.field-item.result c.requires c.loop-field-test.true c.field-item.is
