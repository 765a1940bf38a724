use Rattle.std.proofs.Common.{◌≡◌, List, IfOk, ◌∙◌, sym, subst}
use Rattle.row_values.specs.RowCells.{IsOwnRow}
use Rattle.script_jobs.specs.Jobs.{delete}
use Rattle.table_core.specs.declared.job_reply.JobReply.TheVariants as job
use Rattle.table_history.specs.JobLaw.{entries_of}
use Rattle.table_history.specs.declared.step.PartitionSlots.{PartitionSlots}
use Rattle.table_jobs.specs.declared.del_key.DelKey.{DelKey}
use Rattle.upsert_writer.specs.Answers.{AnswersBatch}
use Rattle.upsert_writer.specs.Batches.{batch_writes}
use Rattle.upsert_writer.specs.Blocks.{HoldsEach}
use Rattle.upsert_writer.specs.Slots.{AreSlotsOf}
use Rattle.upsert_writer.specs.declared.batch.Batch.TheVariants.{Dels}
use Rattle.upsert_writer.proofs.Refusals.{not_made}
use Rattle.script_run.specs.Lines.{batch_of, blocks_of, new_writes}
use Rattle.script_run.proofs.Given.{batch_has, few_keys}
use Rattle.script_run.proofs.lines.delete.Goals as goal

pub write_batch-requires-clause-fits : goal.write_batch-requires-clause-fits
write_batch-requires-clause-fits g c = few_keys c.in-Ok.given c.args.keys.now (c.in-Ok.ensures ∙ c.as_slice.ensures) c.requires.other

pub write_batch-requires-clause-asks : goal.write_batch-requires-clause-asks
write_batch-requires-clause-asks g c =
    let layout = c.args.codec.now.records.own in
    let are : c.in-Ok.given ≡ c.args.keys.now = c.in-Ok.ensures ∙ c.as_slice.ensures in
    subst (λ (keys : List DelKey). IfOk (batch_writes (new_writes layout) (Dels keys)) (λ writes. (slots : List PartitionSlots) → AreSlotsOf writes slots → g.T.Work.asks (g.T.Steps.job c.args.steps.now) slots))
    (sym are) c.requires.asks

pub write_batch-requires-clause-holds : goal.write_batch-requires-clause-holds
write_batch-requires-clause-holds g c =
    let layout = c.args.codec.now.records.own in
    let are : c.in-Ok.given ≡ c.args.keys.now = c.in-Ok.ensures ∙ c.as_slice.ensures in
    subst (λ (keys : List DelKey). IfOk (batch_writes (new_writes layout) (Dels keys)) (HoldsEach g.T.Work.holds (g.T.Steps.job c.args.steps.now) (blocks_of layout))) (sym are) c.requires.holds

pub returns-in-Ok-clause-answer : goal.returns-in-Ok-clause-answer
returns-in-Ok-clause-answer g c =
    let layout = c.args.codec.now.records.own in
    let are : c.in-Ok.given ≡ c.args.keys.now = c.in-Ok.ensures ∙ c.as_slice.ensures in
    subst (λ (keys : List DelKey). AnswersBatch (blocks_of layout) (batch_writes (new_writes layout) (Dels keys)) (entries_of (g.T.Steps.mine c.write_batch.new.steps)) c.write_batch.result)
    are c.write_batch.ensures.answer

pub returns-in-Ok-clause-own : goal.returns-in-Ok-clause-own
returns-in-Ok-clause-own g c =
    let layout = c.args.codec.now.records.own in
    batch_has (IsOwnRow layout) (blocks_of layout) (batch_of layout (delete c.args.keys.now)) (entries_of (g.T.Steps.mine c.write_batch.new.steps)) c.write_batch.result (returns-in-Ok-clause-answer g c)

pub returns-in-Err-clause-answer : goal.returns-in-Err-clause-answer
returns-in-Err-clause-answer g c =
    let layout = c.args.codec.now.records.own in
    not_made (blocks_of layout) (batch_of layout (delete c.args.keys.now)) (g.T.Steps.mine c.args.steps.now) job.Memory c.requires.new tt
