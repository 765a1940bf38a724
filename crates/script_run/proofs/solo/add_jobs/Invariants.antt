use Rattle.std.proofs.Common.{◌≡◌, ◌++◌}
use Rattle.std.specs.Vec.Iter.{into_iter_items}
use Rattle.script_run.proofs.solo.add_jobs.Given as goal

-- the first jobs were added
abbrev pub invariant-loop-job : goal.invariant-loop-job
invariant-loop-job l = record {
  all : l.yielded ++ into_iter_items l.job-iterator ≡ l.fn.phase.jobs;
  jobs : l.jobs ≡ l.fn.jobs ++ l.yielded;
}
