use Rattle.std.proofs.Common.{◌≡◌, ◌++◌, map}
use Rattle.file_groups.specs.Chains.{part_of_log}
use Rattle.file_groups.proofs.chains.push_logs.Given as goal

abbrev pub invariant-loop-log : goal.invariant-loop-log
invariant-loop-log l = l.parts ≡ l.initial.parts ++ map part_of_log l.yielded
