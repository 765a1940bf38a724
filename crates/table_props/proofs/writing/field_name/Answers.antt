use Rattle.std.proofs.Common.{Some, None, sym, ◌∙◌}
use Rattle.table_props.proofs.FieldLemmas.{field_name_at}
use Rattle.table_props.proofs.writing.field_name.Goals as goal

pub returns-in-Some : goal.returns-in-Some
returns-in-Some c = c.name_of.ensures ∙ sym (field_name_at c.args.schema.now _ c.in-Record.fields c.args.place (Some c.in-Some.field.now) c.in-Record.is c.in-Some.ensures.value)

pub returns-in-None : goal.returns-in-None
returns-in-None c = sym (field_name_at c.args.schema.now _ c.in-Record.fields c.args.place None c.in-Record.is c.in-None.ensures.value)
