use Rattle.std.proofs.Common.{All}
use Rattle.std.specs.Vec.Iter.{into_iter_items}
use Rattle.job_script.specs.Rows.{HasSizes}
use Rattle.job_tests.specs.NewJobs.{IsOfTable}
use Rattle.job_tests.proofs.driving.run.Given as goal

-- the board stays one of the table, and the jobs to come have their sizes
abbrev pub invariant-loop-job : goal.invariant-loop-job
invariant-loop-job g l = record {
  table : IsOfTable l.board.origin;
  sized : All HasSizes (into_iter_items l.job-iterator);
}
