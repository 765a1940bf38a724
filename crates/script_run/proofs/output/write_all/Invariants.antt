use Rattle.std.proofs.Common.{◌-◌, ◌≤◌, length, take}
use Rattle.script_run.specs.Ends.{Writes}
use Rattle.script_run.proofs.output.write_all.Given as goal

-- a prefix was written, as long as what is done
abbrev pub invariant-loop-done : goal.invariant-loop-done
invariant-loop-done g l = record {
  within : l.done ≤ length l.bytes;
  prefix : Writes (g.W.Sink.state l.fn.sink).written (g.W.Sink.state l.sink).written (take l.done l.bytes);
  count : (g.W.Sink.state l.fn.sink).faults ≤ (g.W.Sink.state l.sink).faults;
}

abbrev pub decreases-loop-done : goal.decreases-loop-done
decreases-loop-done g l = length l.bytes - l.done
