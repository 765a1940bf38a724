use Rattle.job_tests.specs.NewJobs.{IsOfTable}
use Rattle.job_tests.proofs.deletes.mistold.Given as goal

-- the board stays one of the table
abbrev pub invariant-loop-told : goal.invariant-loop-told
invariant-loop-told l = IsOfTable l.board.origin
