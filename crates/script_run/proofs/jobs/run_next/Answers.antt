use Rattle.std.proofs.Common.{◌∙◌, sym, ap, subst}
use Rattle.row_codec.specs.Codec.{IsOfTable}
use Rattle.script_jobs.specs.Scripts.{said_job}
use Rattle.table_board.specs.Boards.{placed_own}
use Rattle.table_history.specs.JobLaw.{entries_of}
use Rattle.table_history.specs.declared.job.Job.{Job}
use Rattle.script_run.specs.Lines.{AnswersLine, batch_of, blocks_of}
use Rattle.script_run.specs.Runs.{RunTable, job_of}
use Rattle.script_run.proofs.Blocks.{any_asked, any_held}
use Rattle.script_run.proofs.Turns.{none_placed, ran_line}
use Rattle.script_run.proofs.jobs.run_next.Goals as goal

pub run_job-requires-clause-new : goal.run_job-requires-clause-new
run_job-requires-clause-new g c =
    ap (λ b. placed_own c.set_job.new.self.job b.entries) c.set_job.ensures.board
    ∙ ap (λ j. placed_own j c.args.solo.now.board.entries) c.set_job.ensures.job
    ∙ none_placed (job_of (said_job c.args.job.now)) c.args.solo.now.board.entries c.requires.below

pub run_job-requires-clause-of_the_table : goal.run_job-requires-clause-of_the_table
run_job-requires-clause-of_the_table g c =
    subst (λ b. IsOfTable c.args.codec.now.records.own b.origin.props) (sym c.set_job.ensures.board) c.requires.of_the_table

pub run_job-requires-clause-other : goal.run_job-requires-clause-other
run_job-requires-clause-other g c = c.requires.within.other

pub run_job-requires-clause-asks : goal.run_job-requires-clause-asks
run_job-requires-clause-asks g c = any_asked c.set_job.new.self.job (batch_of c.args.codec.now.records.own (said_job c.args.job.now).what)

pub run_job-requires-clause-holds : goal.run_job-requires-clause-holds
run_job-requires-clause-holds g c =
    any_held c.set_job.new.self.job (blocks_of c.args.codec.now.records.own) (batch_of c.args.codec.now.records.own (said_job c.args.job.now).what)

pub returns-clause-ran : goal.returns-clause-ran
returns-clause-ran g c =
    let table : RunTable = record { props = c.args.solo.now.board.origin.props; layout = c.args.codec.now.records.own } in
    let job = said_job c.args.job.now in
    let later = c.run_job.ensures.later in
    let after = c.run_job.new.steps.board.entries in
    let answers = subst (λ (j : Job). AnswersLine table.layout job.what (entries_of (placed_own j after)) c.run_job.result) later.job_is c.run_job.ensures.answer in
    ran_line table job c.set_job.new.self.job c.args.solo.now.board.entries c.set_job.new.self.board.entries after c.run_job.result
    c.set_job.ensures.job (ap (λ b. b.entries) c.set_job.ensures.board) c.requires.below later.adds answers
