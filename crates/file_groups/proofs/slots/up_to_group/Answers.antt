use Rattle.std.proofs.Common.{rules, leb}
use Rattle.std.proofs.lemmas.List.Sorted.{IsPartitionPoint-from_clause, IsPartitionedBy-leb}
use Rattle.file_groups.specs.Slots.{group_number}
use Rattle.file_groups.proofs.SlotLemmas.{parts_up_to}
use Rattle.file_groups.proofs.slots.up_to_group.Goals as goal

pub returns : goal.returns
returns g c =
    let parted = IsPartitionedBy-leb (λ part. group_number (g.P.InGroup.group_of part)) _ (group_number c.args.group.now) c.requires in
    let point = IsPartitionPoint-from_clause (λ part. leb (group_number (g.P.InGroup.group_of part)) (group_number c.args.group.now)) _ _ c.partition_point-end.ensures.partitioned parted (λ a r q k. search rules) in
    parts_up_to g.P.InGroup.group_of g.P.InGroup.part_in g.met.P.InGroup.stands_in c.args.group.now _ c.partition_point-end.result point.1
