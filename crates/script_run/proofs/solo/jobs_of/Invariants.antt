use Rattle.std.proofs.Common.{◌≡◌, ◌++◌, map}
use Rattle.std.specs.Prelude.{flat_map}
use Rattle.std.specs.Vec.Iter.{into_iter_items}
use Rattle.script_jobs.specs.Scripts.{said_job, said_phase}
use Rattle.script_run.proofs.solo.jobs_of.Given as goal

-- the jobs of the first phases
abbrev pub invariant-loop-phase : goal.invariant-loop-phase
invariant-loop-phase l = record {
  all : l.yielded ++ into_iter_items l.phase-iterator ≡ l.fn.phases;
  jobs : map said_job l.all ≡ flat_map (λ jobs. jobs) (map said_phase l.yielded);
}
