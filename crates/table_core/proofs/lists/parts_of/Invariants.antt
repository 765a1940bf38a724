use Rattle.std.proofs.Common.{◌≡◌, take, map}
use Rattle.table_core.specs.ViewTables.{part_named}
use Rattle.table_core.proofs.lists.parts_of.Given as goal

abbrev pub invariant-loop-log : goal.invariant-loop-log
invariant-loop-log l = l.parts ≡ map (part_named l.table l.slice) (take l.log-index l.logs)
