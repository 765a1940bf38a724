use Rattle.std.proofs.Common.{◌-◌, length}
use Rattle.log_scan.proofs.Steps.{IsScanned}
use Rattle.log_scan.proofs.scanning.scan.Given as goal

abbrev pub invariant-loop-offset : goal.invariant-loop-offset
invariant-loop-offset l = IsScanned l.bytes l.blocks l.offset

abbrev pub decreases-loop-offset : goal.decreases-loop-offset
decreases-loop-offset l = length l.initial.bytes - l.offset
