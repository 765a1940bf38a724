use Rattle.core_tests.specs.Past.{HasPast}
use Rattle.core_tests.proofs.steps.told.Given as goal

abbrev pub invariant-loop-action : goal.invariant-loop-action
invariant-loop-action l = HasPast l.control
