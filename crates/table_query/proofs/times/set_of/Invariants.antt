use Rattle.std.proofs.Common.{◌≡◌, ℕ, take}
use Rattle.table_query.specs.GroupReading.{is_among}
use Rattle.table_query.proofs.times.set_of.Given as goal

abbrev pub invariant-loop-t : goal.invariant-loop-t
invariant-loop-t l = (other : ℕ) → is_among l.set.keys other ≡ is_among (take l.t-index l.times) other
