-- Views of groups.
use Rattle.std.proofs.Common.{◌≡◌, List, [], ◌∷◌, map, refl}
use Rattle.hudi_base.specs.declared.file_group.GroupRef.{GroupRef}
use Rattle.file_groups.specs.Views.{bases_of, logs_of, view_from}
use Rattle.file_groups.specs.declared.parts.BasePart.{BasePart}
use Rattle.file_groups.specs.declared.parts.LogPart.{LogPart}

pub same_views : (bases other_bases : List BasePart) (logs other_logs : List LogPart) (groups : List GroupRef)
    → ((group : GroupRef) → bases_of group bases ≡ bases_of group other_bases)
    → ((group : GroupRef) → logs_of group logs ≡ logs_of group other_logs)
    → map (view_from bases logs) groups ≡ map (view_from other_bases other_logs) groups
same_views bases other_bases logs other_logs [] by_bases by_logs = refl
same_views bases other_bases logs other_logs (group ∷ groups) by_bases by_logs =
    rw (by_bases group, by_logs group, same_views bases other_bases logs other_logs groups by_bases by_logs) refl
