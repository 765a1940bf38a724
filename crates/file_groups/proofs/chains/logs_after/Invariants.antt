use Rattle.std.proofs.Common.{◌≡◌, filter, take, option_map}
use Rattle.file_groups.specs.Chains.{is_after}
use Rattle.file_groups.proofs.chains.logs_after.Given as goal

abbrev pub invariant-loop-log : goal.invariant-loop-log
invariant-loop-log l = l.after.items ≡ filter (is_after (option_map (λ base. base.now) l.base)) (take l.log-index l.logs)
