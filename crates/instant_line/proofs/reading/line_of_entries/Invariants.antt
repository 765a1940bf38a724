use Rattle.instant_line.specs.Building.{IsBuilt}
use Rattle.instant_line.proofs.reading.line_of_entries.Given as goal

abbrev pub invariant-loop-i : goal.invariant-loop-i
invariant-loop-i l = IsBuilt l.entries l.i l.line.line
