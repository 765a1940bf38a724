use Rattle.script_jobs.proofs.LimitParts.{within}
use Rattle.script_jobs.proofs.laws.scripts_are_within_limits.Goals as goal

pub returns : goal.returns
returns c = within
