use Rattle.std.proofs.Common.{◌≡◌, take}
use Rattle.table_query.specs.GroupReading.{voided}
use Rattle.table_query.proofs.logs.voided.Given as goal

abbrev pub invariant-loop-log : goal.invariant-loop-log
invariant-loop-log l = l.targets.items ≡ voided (take l.log-index l.logs)
