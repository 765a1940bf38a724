use Rattle.std.proofs.Common.{◌∙◌, ap, sym}
use Rattle.upsert_writer.specs.declared.batch.PutRow.TheVariants.{Fits}
use Rattle.script_run.specs.Lines.{record_or_field}
use Rattle.script_run.proofs.lines.given_row.Goals as goal

pub returns-in-Ok-clause-row : goal.returns-in-Ok-clause-row
returns-in-Ok-clause-row c = ap Fits c.in-Ok.ensures.value.1 ∙ sym (ap record_or_field c.in-Ok.ensures.value.2)
