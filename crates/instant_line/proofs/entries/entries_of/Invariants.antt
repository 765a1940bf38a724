use Rattle.std.proofs.Common.{take, []}
use Rattle.instant_line.specs.NameOrder.{HaveEntries}
use Rattle.instant_line.proofs.entries.entries_of.Given as goal

abbrev pub invariant-loop-name : goal.invariant-loop-name
invariant-loop-name l = HaveEntries (take l.name-index l.names) [] l.entries.items
