use Rattle.std.proofs.Common.{◌∙◌}
use Rattle.table_open.proofs.Made.{one_name}
use Rattle.table_open.proofs.making.properties_name.Goals as goal

pub returns-in-Ok : goal.returns-in-Ok
returns-in-Ok c = λ props. c.in-Ok.ensures ∙ one_name c.args.table.now props.name
