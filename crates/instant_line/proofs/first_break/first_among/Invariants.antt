use Rattle.instant_line.specs.FirstBreak.{IsFirst}
use Rattle.instant_line.proofs.first_break.first_among.Given as goal

abbrev pub invariant-loop-i : goal.invariant-loop-i
invariant-loop-i l = IsFirst l.entries l.names l.i l.first
