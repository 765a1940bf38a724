-- What is found at a key.
use Rattle.std.specs.Prelude.{Option}
use Rattle.std.specs.declared.cmp.Ordering.{Ordering}
use Rattle.std.specs.BTreeMap.{get}
use Rattle.table_core.specs.declared.rooms.Rooms.{Rooms}

unfoldable pub found : {K V : Type 0} → (K → K → Ordering) → Rooms K V → K → Option V
found cmp rooms key = get cmp rooms.slots key
