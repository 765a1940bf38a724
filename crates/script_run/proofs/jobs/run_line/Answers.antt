use Rattle.script_run.proofs.Given.{rows_are_own}
use Rattle.script_run.proofs.jobs.run_line.Goals as goal

pub put_job_text-requires : goal.put_job_text-requires
put_job_text-requires g c = rows_are_own c.args.codec.now.records.own c.run_next-reply.result c.run_next-reply.ensures.own
