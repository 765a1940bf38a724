use Rattle.std.proofs.Common.{◌≤◌}
use Rattle.name_tests.proofs.names.other_prefixes.Given as goal

abbrev pub invariant-loop-len : goal.invariant-loop-len
invariant-loop-len l = l.others ≤ l.len
