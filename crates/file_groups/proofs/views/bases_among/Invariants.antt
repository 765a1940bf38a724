use Rattle.std.proofs.Common.{◌≡◌, filter, take}
use Rattle.file_groups.specs.Names.{has_name}
use Rattle.file_groups.proofs.views.bases_among.Given as goal

abbrev pub invariant-loop-base : goal.invariant-loop-base
invariant-loop-base l = l.bases.items ≡ filter (λ base. has_name l.names base.name) (take l.base-index l.named)
