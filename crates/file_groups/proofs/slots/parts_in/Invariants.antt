use Rattle.std.proofs.Common.{◌≡◌, filter, take}
use Rattle.key_index.specs.Tiling.{is_same_group}
use Rattle.file_groups.proofs.slots.parts_in.Given as goal

abbrev pub invariant-loop-part : goal.invariant-loop-part
invariant-loop-part g l = l.own ≡ filter (λ part. is_same_group (g.P.InGroup.group_of part) l.group) (take l.part-index l.parts)
