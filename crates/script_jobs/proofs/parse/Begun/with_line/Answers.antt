use Rattle.std.proofs.Common.{subst, sym}
use Rattle.script_jobs.specs.Begun.{ReadsBegun, begun_view}
use Rattle.script_jobs.specs.Scripts.{said_job}
use Rattle.script_jobs.proofs.ScriptParts.{line_bad, line_job}
use Rattle.script_jobs.proofs.parse.Begun.with_line.Goals as goal

pub returns-in-Ok : goal.returns-in-Ok
returns-in-Ok c =
    subst (ReadsBegun c.args.number c.with_job.result)
    (sym (line_job c.args.lanes c.args.number (begun_view c.args.self) c.args.line.now (said_job c.in-Ok.job) c.in-Ok.ensures)) c.with_job.ensures

pub returns-in-Err : goal.returns-in-Err
returns-in-Err c = line_bad c.args.lanes c.args.number (begun_view c.args.self) c.args.line.now c.in-Err.error c.in-Err.ensures
