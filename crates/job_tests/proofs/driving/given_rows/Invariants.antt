use Rattle.std.proofs.Common.{◌≡◌, take}
use Rattle.job_tests.specs.NewJobs.{are_given}
use Rattle.job_tests.proofs.driving.given_rows.Given as goal

abbrev pub invariant-loop-row : goal.invariant-loop-row
invariant-loop-row l = l.given ≡ are_given (take l.row-index l.rows)
