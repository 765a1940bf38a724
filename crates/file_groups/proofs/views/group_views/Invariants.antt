use Rattle.std.proofs.Common.{◌≡◌, map}
use Rattle.file_groups.specs.Views.{view_from}
use Rattle.file_groups.proofs.views.group_views.Given as goal

abbrev pub invariant-loop-group : goal.invariant-loop-group
invariant-loop-group l = l.views ≡ map (view_from l.bases l.logs) l.yielded
