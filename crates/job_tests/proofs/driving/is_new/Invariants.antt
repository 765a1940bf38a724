use Rattle.std.proofs.Common.{All, take}
use Rattle.job_tests.proofs.Marks.{IsOther}
use Rattle.job_tests.proofs.driving.is_new.Given as goal

-- the marks so far are of other lines
abbrev pub invariant-loop-mark : goal.invariant-loop-mark
invariant-loop-mark l = All (IsOther l.line) (take l.mark-index l.marks)
