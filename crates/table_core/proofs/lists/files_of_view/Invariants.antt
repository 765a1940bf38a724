use Rattle.std.proofs.Common.{◌≡◌, take}
use Rattle.std.specs.List.{flat_map}
use Rattle.table_core.proofs.lists.files_of_view.Given as goal

abbrev pub invariant-loop-group : goal.invariant-loop-group
invariant-loop-group l = l.parts ≡ flat_map (λ g. g.parts) (take l.group-index l.group-items)
