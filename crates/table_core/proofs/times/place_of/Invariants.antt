use Rattle.std.proofs.Common.{◌≡◌, ◌≤◌, ◌++◌, length, take, drop, reverse}
use Rattle.table_history.specs.Times.{insert_time}
use Rattle.table_core.proofs.times.place_of.Given as goal

-- The times from i on were passed: the time's place is among those before.
abbrev pub invariant-loop-i : goal.invariant-loop-i
invariant-loop-i l = record {
  within : l.i ≤ length l.times;
  passed : insert_time l.t (reverse l.times) ≡ reverse (drop l.i l.times) ++ insert_time l.t (reverse (take l.i l.times));
}

abbrev pub decreases-loop-i : goal.decreases-loop-i
decreases-loop-i l = l.i
