use Rattle.std.proofs.Common.{◌≡◌, take}
use Rattle.file_groups.specs.Views.{log_parts}
use Rattle.file_groups.proofs.views.log_parts.Given as goal

abbrev pub invariant-loop-file : goal.invariant-loop-file
invariant-loop-file l = l.logs.items ≡ log_parts l.table (take l.file-index l.files)
