use Rattle.std.proofs.Common.{◌≡◌, take}
use Rattle.table_board.proofs.copies.copy_targets.Given as goal

abbrev pub invariant-loop-target : goal.invariant-loop-target
invariant-loop-target l = l.copied ≡ take l.target-index l.targets
