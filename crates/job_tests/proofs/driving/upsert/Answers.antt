use Rattle.std.proofs.Common.{◌∙◌, sym, ap, subst, List}
use Rattle.plain_rows.specs.PlainValues.{IsPlainValue}
use Rattle.upsert_writer.specs.BatchFits.{BatchFits}
use Rattle.upsert_writer.specs.declared.batch.Batch.TheVariants.{Puts}
use Rattle.upsert_writer.specs.declared.batch.PutRow.{PutRow}
use Rattle.job_tests.specs.NewJobs.{are_given}
use Rattle.job_tests.proofs.Batches.{batch_of_sized}
use Rattle.job_tests.proofs.driving.upsert.Goals as goal

pub write-requires-clause-fits : goal.write-requires-clause-fits
write-requires-clause-fits g c =
    let P : List PutRow → Type 0 = λ rows. BatchFits IsPlainValue (Puts rows) in
    subst P (sym (c.in_ok-given.ensures ∙ ap are_given c.as_slice.ensures)) (batch_of_sized c.args.rows c.requires.sized)
