use Rattle.std.proofs.Common.{◌≡◌, drop}
use Rattle.file_groups.specs.Views.{first_other, base_partitions}
use Rattle.file_groups.proofs.views.first_other_base.Given as goal

abbrev pub invariant-loop-base : goal.invariant-loop-base
invariant-loop-base l = first_other l.partition (base_partitions l.named) ≡ first_other l.partition (base_partitions (drop l.base-index l.named))
