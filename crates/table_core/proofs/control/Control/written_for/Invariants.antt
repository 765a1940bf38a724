use Rattle.std.proofs.Common.{◌≡◌, take}
use Rattle.table_core.specs.ControlTables.{writes_in}
use Rattle.table_history.specs.Metadata.{written}
use Rattle.table_core.proofs.control.Control.written_for.Given as goal

abbrev pub invariant-loop-i : goal.invariant-loop-i
invariant-loop-i l = l.groups ≡ written (writes_in l.self l.t) 0 (take l.i l.targets)
