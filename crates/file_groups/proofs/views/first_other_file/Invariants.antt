use Rattle.std.proofs.Common.{◌≡◌, drop}
use Rattle.file_groups.specs.Views.{first_other, file_partitions}
use Rattle.file_groups.proofs.views.first_other_file.Given as goal

abbrev pub invariant-loop-file : goal.invariant-loop-file
invariant-loop-file l = first_other l.partition (file_partitions l.files) ≡ first_other l.partition (file_partitions (drop l.file-index l.files))
